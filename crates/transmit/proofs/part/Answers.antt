-- The tests on the way rule the other parts out; a window of one of the segments is the next part of the three.
use Prim.Native.Nat.{ℕ, ◌+◌, ◌-◌, ◌≤◌}
use native.Mathlib.Omega.{arith}
use mathlib.Core.Logic.{inl, inr}
use mathlib.Core.Path.{◌≡◌, sym, ◌∙◌}
use mathlib.Core.Bool.{Bool, false}
use lib.Dec.{ltb}
use lib.ListN.{length-take}
use borrow.Author.Tests.{ltb-true, ltb-false}
use Rattle.wire.specs.Codes.{HEADER-LEN}
use Rattle.transmit.specs.Part.{behind}
use Rattle.transmit.proofs.Parts.{part_of_header, part_of_data, part_of_descriptors, empty_iff}
use Rattle.transmit.proofs.part.Goals as goal

-- the header buffer has room, where `too_short` says so
room : (len p : ℕ) {short : Bool} → short ≡ ltb len (HEADER-LEN + behind p) → short ≡ false → HEADER-LEN + behind p ≤ len
room len p e f = ltb-false len (HEADER-LEN + behind p) (sym e ∙ f)

pub returns-then-too_short : goal.returns-then-too_short
returns-then-too_short c = sym ((empty_iff _ _ _ _ _ _).1 (inr (inr (inl (ltb-true _ _ (sym c.too_short.ensures ∙ c.if-too_short.true))))))

pub returns-then-data-n : goal.returns-then-data-n
returns-then-data-n c = sym ((empty_iff _ _ _ _ _ _).1 (inr (inr (inr (omega arith)))))

pub slice_bounds-window-end : goal.slice_bounds-window-end
slice_bounds-window-end c = let h = room _ _ c.too_short.ensures c.if-too_short.false in omega (arith, length-take {A = ℕ} 48 c.args.header.now)

pub returns-then-sent-lt-HEADER_LEN : goal.returns-then-sent-lt-HEADER_LEN
returns-then-sent-lt-HEADER_LEN c = c.window.ensures ∙ sym (part_of_header _ _ _ _ (room _ _ c.too_short.ensures c.if-too_short.false) (omega arith) _ _ (omega arith))

pub returns-then-past-n : goal.returns-then-past-n
returns-then-past-n c = c.window-then-past-n.ensures ∙ sym (part_of_data _ _ _ _ (room _ _ c.too_short.ensures c.if-too_short.false) (omega arith) _ _ (omega arith) (omega arith))

pub returns : goal.returns
returns c =
    let a = c.args in
    let z : HEADER-LEN + behind a.p - HEADER-LEN ≡ behind a.p = omega arith in
    c.window-2.ensures
    ∙ rw z (sym (part_of_descriptors a.header.now a.«data».now a.n a.p (room _ _ c.too_short.ensures c.if-too_short.false) (omega arith) a.sent a.most (omega arith) (omega arith)))
