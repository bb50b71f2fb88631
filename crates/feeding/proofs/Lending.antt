-- What the code lends of a piece and writes of a header.
use Prim.Native.Nat.{ℕ, ◌+◌, ◌-◌, ◌≤◌, ◌<◌}
use native.Mathlib.Omega.{arith}
use mathlib.Core.Path.{◌≡◌, sym, ap, subst, ◌∙◌}
use mathlib.Core.List.{List, ◌++◌, append_assoc}
use lib.ListN.{length, take, drop, length-append, length-drop, take-append-drop, drop_of_length-le}
use lib.Seq.{take_all, length-take-le}
use Rattle.limits.specs.Limits.{DESCRIPTORS-LEN}
use Rattle.wire.specs.Codes
use Rattle.ground.specs.Writing.{Wrote}
use Rattle.links.specs.declared.link.Progress.{Progress}
use Rattle.feeding.specs.Asking.{grown}
use Rattle.ground.proofs.Parts.{over_front, written_next}

-- bytes put behind the first `off` of an array of n by a callee that was lent the rest of it
pub put-behind : (n : ℕ) (l B ys : List ℕ) (off count : ℕ) → length l ≡ n → off + length B ≤ n → Wrote B (take (n - off) (drop off l)) ys count
    → take off l ++ (ys ++ drop (n - off) (drop off l)) ≡ take off l ++ (B ++ drop (off + length B) l)
put-behind n l B ys off count e h w =
    let W = take off l in
    let k : length W ≡ off = length-take-le off l (omega arith) in
    written_next l l W B ys off n count e k (sym (over_front off l (omega arith))) h w
    ∙ append_assoc W B (drop (length (W ++ B)) l)
    ∙ ap (λ (m : ℕ). W ++ (B ++ drop m l)) (length-append W B ∙ ap (λ (m : ℕ). m + length B) k)

-- ## Parts of a piece, as the code lends them

pub part-rest : (xs : List ℕ) (at : ℕ) → take (length xs - at) (drop at xs) ≡ drop at xs
part-rest xs at = take_all (length xs - at) (drop at xs) (rw length-drop (omega arith))

pub part_need : (at need : ℕ) (xs : List ℕ) → take (at + need - at) (drop at xs) ≡ take need (drop at xs)
part_need at need xs = let e : at + need - at ≡ need = omega arith in ap (λ (m : ℕ). take m (drop at xs)) e

-- ## The descriptors of a body

-- bytes that are all data bring none
pub none_more : (ds xs : List ℕ) (skip at : ℕ) → length xs ≤ skip → take at ds ++ (drop skip xs ++ drop (at + length (drop skip xs)) ds) ≡ ds
none_more ds xs skip at h =
    let z : at + 0 ≡ at = omega arith in
    rw (drop_of_length-le xs {i = skip} h) (ap (λ (k : ℕ). take at ds ++ drop k ds) z ∙ take-append-drop at ds)

-- those that aren't go behind the ones that came before
pub some_more : (ds xs ys : List ℕ) (skip at count : ℕ) → length ds ≡ DESCRIPTORS-LEN → at + (length xs - skip) ≤ DESCRIPTORS-LEN
    → Wrote (take (length xs - skip) (drop skip xs)) (take (DESCRIPTORS-LEN - at) (drop at ds)) ys count
    → take at ds ++ (ys ++ drop (DESCRIPTORS-LEN - at) (drop at ds)) ≡ take at ds ++ (drop skip xs ++ drop (at + length (drop skip xs)) ds)
some_more ds xs ys skip at count e h w =
    put-behind DESCRIPTORS-LEN ds (drop skip xs) ys at count e (rw length-drop h)
    (subst (λ (B : List ℕ). Wrote B (take (DESCRIPTORS-LEN - at) (drop at ds)) ys count) (part-rest xs skip) w)

-- ## A request's head

module _ (p : Progress) (piece : List ℕ) (q : Progress) where
  pub grown_short : q ≡ grown p (take (Codes.OP-LEN - p.filled - 0) piece) → p.filled < Codes.OP-LEN → Codes.OP-LEN - p.filled ≤ length piece
      → q.filled < Codes.OP-LEN + Codes.BUSID-LEN
  grown_short e h l =
      let n : length (take (Codes.OP-LEN - p.filled - 0) piece) ≡ Codes.OP-LEN - p.filled =
      length-take-le (Codes.OP-LEN - p.filled - 0) piece (omega arith) ∙ omega arith in
      rw e (omega arith)
