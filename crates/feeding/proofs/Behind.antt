-- Bytes put behind the first of an array, over what stood there.
use Prim.Native.Nat.{ℕ, zero, suc, ◌+◌, ◌-◌, ◌≤◌}
use native.Mathlib.Omega.{arith}
use mathlib.Core.Path.{◌≡◌, sym, ap, ◌∙◌}
use mathlib.Core.List.{List, ◌++◌, append_assoc}
use lib.ListN.{length, take, drop, replicate, length-append, length-drop}
use lib.Seq.{take_at, drop_at, drop-drop, length-take-le}

drop_zeros : (m n : ℕ) → ◌≡◌ {A = List ℕ} (drop m (replicate n 0)) (replicate (n - m) 0)
drop_zeros zero n = let e : n ≡ n - 0 = omega arith in ap (λ (k : ℕ). replicate k 0) e
drop_zeros (suc m) zero = let e : 0 ≡ 0 - suc m = omega arith in ap (λ (k : ℕ). replicate k 0) e
drop_zeros (suc m) (suc n) = let e : n - m ≡ suc n - suc m = omega arith in drop_zeros m n ∙ ap (λ (k : ℕ). replicate k 0) e

module _ (at : ℕ) (l xs : List ℕ) (fit : at + length xs ≤ length l) where
  abbrev behind : List ℕ
  behind = drop (at + length xs) l

  abbrev filled : List ℕ
  filled = take at l ++ (xs ++ behind)

  pub front_length : length (take at l ++ xs) ≡ at + length xs
  front_length = length-append (take at l) xs ∙ rw (length-take-le at l (omega arith))

  -- those that came before, the new ones, and what stood behind
  pub filled_parts : filled ≡ (take at l ++ xs) ++ behind
  filled_parts = sym (append_assoc (take at l) xs behind)

  pub filled_front : take (at + length xs) filled ≡ take at l ++ xs
  filled_front = ap (take (at + length xs)) filled_parts ∙ take_at (take at l ++ xs) behind (at + length xs) front_length

  pub filled_length : length filled ≡ length l
  filled_length =
      ap length filled_parts
      ∙ rw (length-append (take at l ++ xs) behind, length-drop (at + length xs) l, front_length) (omega arith)

  -- zeros stay behind
  pub filled_rest : (n : ℕ) → drop at l ≡ replicate (n - at) 0 → drop (at + length xs) filled ≡ replicate (n - (at + length xs)) 0
  filled_rest n z =
      let e : n - at - length xs ≡ n - (at + length xs) = omega arith in
      ap (drop (at + length xs)) filled_parts
      ∙ drop_at (take at l ++ xs) behind (at + length xs) front_length
      ∙ sym (drop-drop (length xs) at l)
      ∙ rw (z, drop_zeros (length xs) (n - at), e)
