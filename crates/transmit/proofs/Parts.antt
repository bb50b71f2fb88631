-- What the parts of a reply are.
use Prim.Native.Nat.{ℕ, ◌+◌, ◌-◌, ◌≤◌, ◌<◌, min}
use native.Mathlib.Omega.{arith}
use mathlib.Core.List.{List, [], ◌++◌, flatten, append-nil, append_assoc}
use mathlib.Core.Logic.{◌⊎◌, inl, inr, ⊎_elim, ◌↔◌}
use mathlib.Core.Path.{◌≡◌, refl, sym, ap, ◌∙◌}
use lib.ListN.{length, take, drop, length-append, length-take, length-drop}
use lib.Seq.{length-take-le}
use borrow.Author.Tests.{lt-ltb, le-ltb}
use Rattle.wire.specs.Codes.{HEADER-LEN}
use Rattle.transmit.specs.Part.{next, behind, segments, part_of, segment_end, Causes}
use Rattle.transmit.proofs.Segments.{case_lt, next-empty_iff, next_last}

-- the segments in a row
pub flatten_segments : (header frame : List ℕ) (n p : ℕ)
    → flatten (segments header frame n p) ≡ take HEADER-LEN header ++ take n frame ++ take (behind p) (drop HEADER-LEN header)
unfolding flatten
flatten_segments header frame n p =
    let ds = take (behind p) (drop HEADER-LEN header) in
    ap (λ (l : List ℕ). take HEADER-LEN header ++ (take n frame ++ l)) (append-nil ds)
    ∙ sym (append_assoc (take HEADER-LEN header) (take n frame) ds)

-- ## A reply whose header buffer and data are long enough

module _ (header frame : List ℕ) (n p : ℕ) (h : HEADER-LEN + behind p ≤ length header) (f : n ≤ length frame) where
  first : length (take HEADER-LEN header) ≡ HEADER-LEN
  first = length-take-le HEADER-LEN header (omega arith)

  last : length (take (behind p) (drop HEADER-LEN header)) ≡ behind p
  last = length-take-le (behind p) (drop HEADER-LEN header) (simp length-drop (omega arith))

  pub segments-length : length (flatten (segments header frame n p)) ≡ HEADER-LEN + n + behind p
  segments-length = simp (flatten_segments, length-append, first, length-take-le n frame f, last) (omega arith)

  pub part-next : (sent most : ℕ) → part_of header frame n p sent most ≡ next (segments header frame n p) sent most
  unfolding part_of
  part-next sent most = simp (le-ltb (length header) (HEADER-LEN + behind p) h, le-ltb (length frame) n f)

  -- the header first
  pub part_of_header : (sent most : ℕ) → sent < HEADER-LEN
      → part_of header frame n p sent most ≡ take most (drop sent (take HEADER-LEN header))
  unfolding next
  part_of_header sent most l = part-next sent most ∙ simp (first, lt-ltb sent HEADER-LEN l)

  -- then the data
  pub part_of_data : (sent most : ℕ) → HEADER-LEN ≤ sent → sent - HEADER-LEN < n
      → part_of header frame n p sent most ≡ take most (drop (sent - HEADER-LEN) (take n frame))
  unfolding next
  part_of_data sent most l m =
      part-next sent most ∙ simp (first, le-ltb sent HEADER-LEN l, length-take-le n frame f, lt-ltb (sent - HEADER-LEN) n m)

  -- then the descriptors
  pub part_of_descriptors : (sent most : ℕ) → HEADER-LEN ≤ sent → n ≤ sent - HEADER-LEN
      → part_of header frame n p sent most ≡ take most (drop (sent - HEADER-LEN - n) (take (behind p) (drop HEADER-LEN header)))
  unfolding next
  part_of_descriptors sent most l m =
      part-next sent most
      ∙ simp (first, le-ltb sent HEADER-LEN l, length-take-le n frame f, le-ltb (sent - HEADER-LEN) n m)
      (next_last (take (behind p) (drop HEADER-LEN header)) (sent - HEADER-LEN - n) most)

  -- as far as the most, or the end of the header, of the data or of the descriptors, allows
  pub part_length : (sent most : ℕ) → length (part_of header frame n p sent most) ≡ min most (segment_end n p sent - sent)
  part_length sent most =
      case_lt (λ (e : ℕ). length (part_of header frame n p sent most) ≡ min most (e - sent)) sent HEADER-LEN
      (λ l. rw (part_of_header sent most l) (simp (length-take, length-drop) (omega arith)))
      (λ l. case_lt (λ (e : ℕ). length (part_of header frame n p sent most) ≡ min most (e - sent)) sent (HEADER-LEN + n)
      (λ m. rw (part_of_data sent most l (omega arith)) (simp (length-take, length-drop) (omega arith)))
      (λ m.
      let ds = take (behind p) (drop HEADER-LEN header) in
      let k = sent - HEADER-LEN - n in
      rw (part_of_descriptors sent most l (omega arith)) (length-take most (drop k ds) ∙ ap (min most) (length-drop k ds ∙ rw last (omega arith)))))

  good-empty_iff : (sent most : ℕ) → (next (segments header frame n p) sent most ≡ []) ↔ Causes header frame n p sent most
  good-empty_iff sent most =
      let e : (next (segments header frame n p) sent most ≡ []) ↔ ((HEADER-LEN + n + behind p ≤ sent) ⊎ (most ≡ 0)) =
      rw segments-length at (next-empty_iff (segments header frame n p) sent most)
      in (
        λ q. ⊎_elim inl (λ z. inr (inl z)) (e.0 q),
        ⊎_elim (λ a. e.1 (inl a))
            (⊎_elim (λ z. e.1 (inr z)) (⊎_elim (λ l. absurd (omega arith)) (λ l. absurd (omega arith)))),
      )

-- ## Every reply

-- a part is empty for one of the four causes, and for no other
pub empty_iff : (header frame : List ℕ) (n p sent most : ℕ)
    → (part_of header frame n p sent most ≡ []) ↔ Causes header frame n p sent most
unfolding part_of
empty_iff header frame n p sent most =
    case_lt (λ (x : List ℕ). (x ≡ []) ↔ Causes header frame n p sent most) (length header) (HEADER-LEN + behind p)
    (λ h. (λ e. inr (inr (inl h)), λ w. refl))
    (λ h. case_lt (λ (x : List ℕ). (x ≡ []) ↔ Causes header frame n p sent most) (length frame) n
    (λ f. (λ e. inr (inr (inr f)), λ w. refl))
    (λ f. good-empty_iff header frame n p h f sent most))
