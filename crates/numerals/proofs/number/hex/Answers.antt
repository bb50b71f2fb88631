use native.Mathlib.Omega.{arith}
use borrow.Author.Rules.{rules}
use mathlib.Core.Path.{◌≡◌, sym}
use Rattle.ground.proofs.Parts.{wrote_none, wrote_over}
use Rattle.numerals.specs.Digits.{hex_of}
use Rattle.hex.specs.Hex.{IsBytes}
use Rattle.numerals.proofs.Numbers.{hex_is, hex_length}
use Rattle.numerals.proofs.number.hex.Goals as goal

pub returns-then-out-bytes : goal.returns-then-out-bytes
returns-then-out-bytes c = wrote_none (hex_of c.args.bytes.now) _ (omega (arith, hex_length c.args.bytes.now))

pub returns : goal.returns
returns c =
    let bytes = c.args.bytes.now in
    let fits : IsBytes bytes = λ i. let f = c.type_inv.bytes i in omega arith in
    let n = hex_length bytes in
    let w : c.encode_to_slice.new.output ≡ hex_of bytes = search (rules, hex_is bytes fits) in
    wrote_over (hex_of bytes) _ _ _ (omega (arith, n)) (rw (w, n)) (sym n)
