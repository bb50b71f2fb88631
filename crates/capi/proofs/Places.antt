-- A part of a reply stands where it is said to.
use Prim.Native.Nat.{ℕ, zero, suc, ◌+◌, ◌-◌, ◌≤◌, ◌<◌}
use native.Mathlib.Omega.{arith}
use mathlib.Core.List.{List, [], ◌∷◌}
use mathlib.Core.Logic.{inl, inr}
use mathlib.Core.Path.{◌≡◌, refl, sym, ap, ◌∙◌}
use lib.ListN.{length, take, drop, length-take}
use lib.Seq.{take-take, take-nil, drop-drop}
use borrow.Author.Tests.{ne_eqb, lt-ltb, le-ltb}
use Rattle.wire.specs.Codes.{HEADER-LEN}
use Rattle.transmit.specs.Part.{behind, part_of}
use Rattle.transmit.proofs.Parts.{part_of_header, part_of_data, part_of_descriptors, empty_iff}
use Rattle.ground.proofs.Lists.{take_of}
use Rattle.ground.proofs.Cases.{not_less}
use Rattle.capi.specs.Flat.{OF-HEADER, OF-PAYLOAD, part_row, flat_part, bytes_at}
use Rattle.capi.specs.declared.sending.FlatPart.{FlatPart}

-- bytes from a window of a list stand in the list where they stand in the window
stands : (at w most : ℕ) (s : List ℕ) → take (length (take most (drop at (take w s)))) (drop at s) ≡ take most (drop at (take w s))
stands zero w most s =
    let p = take most (take w s) in
    sym (take-take (length p) w s (simp length-take (omega arith))) ∙ take_of most (take w s)
stands (suc at) zero most [] = rw (take-nil most)
stands (suc at) (suc w) most [] = rw (take-nil most)
stands (suc at) zero most (x ∷ xs) = rw (take-nil most)
stands (suc at) (suc w) most (x ∷ xs) = stands at w most xs

nothing : (l : List ℕ) → length l ≡ 0 → l ≡ []
nothing [] e = refl
nothing (x ∷ xs) e = absurd (omega arith)

-- ## The four ways of the sending step, each by how many bytes the part has

module _ (header payload : List ℕ) (n p sent most size : ℕ) (r : FlatPart) (e : size ≡ length (part_of header payload n p sent most)) where
  abbrev whole : List ℕ
  whole = part_of header payload n p sent most

  abbrev Said : Type 0
  Said = (r ≡ flat_part (length whole) n sent) × (bytes_at r header payload ≡ whole)

  long-header : (size ≡ 0 → ⊥) → HEADER-LEN + behind p ≤ length header
  long-header some =
      not_less (length header) (HEADER-LEN + behind p) (λ l. some (e ∙ ap length ((empty_iff header payload n p sent most).1 (inr (inr (inl l))))))

  long-payload : (size ≡ 0 → ⊥) → n ≤ length payload
  long-payload some =
      not_less (length payload) n (λ l. some (e ∙ ap length ((empty_iff header payload n p sent most).1 (inr (inr (inr l))))))

  pub none : size ≡ 0 → r ≡ part_row OF-HEADER 0 0 → Said
  none z q = (rw (q, ← e, z), rw q (sym (nothing whole (sym e ∙ z))))

  pub of_header : (size ≡ 0 → ⊥) → sent < HEADER-LEN → r ≡ part_row OF-HEADER sent size → Said
  of_header some l q =
      let s : take (length whole) (drop sent header) ≡ whole =
      rw (part_of_header header payload n p (long-header some) (long-payload some) sent most l) (stands sent HEADER-LEN most header)
      in (rw (q, ← e, ne_eqb size 0 some, lt-ltb sent HEADER-LEN l), rw (q, e) s)

  pub of_payload : (size ≡ 0 → ⊥) → HEADER-LEN ≤ sent → sent - HEADER-LEN < n → r ≡ part_row OF-PAYLOAD (sent - HEADER-LEN) size → Said
  of_payload some l m q =
      let s : take (length whole) (drop (sent - HEADER-LEN) payload) ≡ whole =
      rw (part_of_data header payload n p (long-header some) (long-payload some) sent most l m) (stands (sent - HEADER-LEN) n most payload)
      in (rw (q, ← e, ne_eqb size 0 some, le-ltb sent HEADER-LEN l, lt-ltb (sent - HEADER-LEN) n m), rw (q, e) s)

  pub of_descriptors : (size ≡ 0 → ⊥) → HEADER-LEN ≤ sent → n ≤ sent - HEADER-LEN → r ≡ part_row OF-HEADER (sent - n) size → Said
  of_descriptors some l m q =
      let at = sent - HEADER-LEN - n in
      let w : HEADER-LEN + at ≡ sent - n = omega arith in
      let d : drop (sent - n) header ≡ drop at (drop HEADER-LEN header) =
      sym (drop-drop at HEADER-LEN header ∙ ap (λ k. drop k header) w) in
      let s : take (length whole) (drop (sent - n) header) ≡ whole =
      rw (d, part_of_descriptors header payload n p (long-header some) (long-payload some) sent most l m)
      (stands at (behind p) most (drop HEADER-LEN header))
      in (rw (q, ← e, ne_eqb size 0 some, le-ltb sent HEADER-LEN l, le-ltb (sent - HEADER-LEN) n m), rw (q, e) s)
