use Rattle.std.proofs.Common.{◌-◌, ◌+◌, ◌≡◌, ap, ◌∙◌, inr, arith, ltb, length, take, drop, length-take, length-drop}
use borrow.Rule.Slice.PartMut.{put_mid, same_len_mid, take_put}
use Rattle.tape.proofs.Wanted.{enough}
use Rattle.console.specs.Windows.{window_of}
use Rattle.console.proofs.Refilling.{copied, as_it_was, read_on}
use Rattle.console.proofs.input.refill.Goals as goal

-- as many bytes are there as the record wants
pub returns-then-wanted-left-clause-ok : goal.returns-then-wanted-left-clause-ok
returns-then-wanted-left-clause-ok g c =
    let w = c.args.w in
    let bytes = window_of w c.args.buf.now in
    let n = length-take (w.end - w.at) (drop w.at c.args.buf.now) in
    let d = length-drop w.at c.args.buf.now in
    as_it_was w c.args.buf.now c.requires.0
    (inr (enough bytes (omega (arith, c.wanted.ensures, c.if-wanted-left.true, n, d, c.requires.0.0, c.requires.0.1))))

-- the window moved to the front, and more came in behind it
pub returns-clause-ok : goal.returns-clause-ok
returns-clause-ok g c =
    let w = c.args.w in
    let moved = c.copy_within.new.self in
    let came = c.read_full.new.buf in
    let got = c.in_ok-got.got in
    let left = w.end - w.at in
    let room = length moved - left in
    let e = c.copy_within.ensures.len in
    let p : length came ≡ length (take room (drop left moved)) = c.read_full.auto.buf in
    let n = p ∙ length-take room (drop left moved) in
    let after = put_mid left room moved came in
    read_on w c.args.buf.now after got c.requires.0 c.requires.1
    (same_len_mid left room moved came p ∙ e)
    (omega (arith, (c.in_ok-got.ensures).0, n, length-drop left moved, e, c.requires.0.0, c.requires.0.1))
    (take_put left room moved came (omega (arith, e, c.requires.0.1)) ∙ rw c.copy_within.ensures.after (copied c.args.buf.now _ w.at w.end (omega arith) c.requires.0.0 c.requires.0.1))
    (ltb (left + got) (length moved))
    (ap (ltb (left + got)) e)
