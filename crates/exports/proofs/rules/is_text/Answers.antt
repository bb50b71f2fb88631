use Rattle.std.proofs.Common.{rules, ◌≡◌, ◌<◌, length, sym}
use Rattle.exports.specs.Rules.{text, first_zero}
use Rattle.exports.proofs.Texts.{first_is_least, no_zero}
use Rattle.ground.proofs.Lists.{part_end}
use borrow.Author.Tests.{le-leb}
use Prim.Native.Nat.{suc}
use mathlib.Core.Path.{refl}
use Rattle.exports.proofs.rules.is_text.Goals as goal

pub returns-then-end-gt0 : goal.returns-then-end-gt0
unfolding text
returns-then-end-gt0 c =
    let bs = c.args.bytes.now in
    let z = c.in-Some.end in
    let inside : z < length bs = search rules in
    let e : first_zero bs ≡ z = first_is_least bs z (search rules) (search rules) in
    rw (e, le-leb 1 z c.if-end-gt0.true, le-leb (suc z) (length bs) inside, ← (part_end bs (length bs) z refl)) c.all_zero.ensures

pub returns-in-None : goal.returns-in-None
returns-in-None c = sym (no_zero c.args.bytes.now (search rules))
