-- Loops over lists: at place i, what is left is `drop i`.
use Prim.Native.Nat.{ℕ, ◌+◌, ◌<◌, ◌≤◌, min}
use mathlib.Core.Path.{◌≡◌, ◌∙◌}
use mathlib.Core.Bool.{true, ◌&&◌}
use mathlib.Core.List.{List, [], ◌∷◌}
use native.Mathlib.Numerals.{add-one}
use native.Mathlib.Omega.{arith}
use lib.Dec.{eqb}
use lib.ListN.{length, take, drop, get_or, length-take, drop_of_length-le}
use lib.Seq.{drop-cons, get_or-take}
use Rattle.ground.specs.Lists.{same_bytes}

-- the element at place i, and what is left behind it, whatever is asked of them
module _ {A B : Type 0} (f : List A → B) (z : A) where
  pub next : (xs : List A) (i : ℕ) → i < length xs → f (drop i xs) ≡ f (get_or xs i z ∷ drop (i + 1) xs)
  next xs i h = rw (add-one, drop-cons xs i z)

  -- of the first n
  pub next_of : (n : ℕ) (xs : List A) (i : ℕ) → i < min n (length xs)
      → f (drop i (take n xs)) ≡ f (get_or xs i z ∷ drop (i + 1) (take n xs))
  next_of n xs i h = next (take n xs) i (rw (length-take n xs) h) ∙ rw (get_or-take n xs i z (omega arith))

-- nothing is left
module _ {A B : Type 0} (f : List A → B) where
  pub past : (xs : List A) (i : ℕ) → length xs ≤ i → f (drop i xs) ≡ f []
  past xs i h = rw (drop_of_length-le xs {i = i} h)

  pub past_of : (n : ℕ) (xs : List A) (i : ℕ) → min n (length xs) ≤ i → f (drop i (take n xs)) ≡ f []
  past_of n xs i h = past (take n xs) i (rw (length-take n xs) h)

-- two lists side by side
module _ (xs ys : List ℕ) (j : ℕ) where
  pub same_next : j < length xs → j < length ys
      → same_bytes (drop j xs) (drop j ys) ≡ (eqb (get_or xs j 0) (get_or ys j 0) && same_bytes (drop (j + 1) xs) (drop (j + 1) ys))
  same_next hx hy = rw (add-one, drop-cons xs j 0, drop-cons ys j 0)

  pub same_past : length xs ≤ j → length ys ≤ j → same_bytes (drop j xs) (drop j ys) ≡ true
  same_past hx hy = rw (drop_of_length-le xs {i = j} hx, drop_of_length-le ys {i = j} hy)
