-- What is said of a list, whatever its elements stand for.
use Rattle.std.specs.Prelude.{ℕ, ◌-◌, ◌<◌, Bool, true, false, ◌&&◌, List, [], ◌∷◌, ◌++◌, eqb, length, replicate}

-- The bytes of each of a list's elements, one straight after the other.
abbrev pub joined : {A : Type 0} → (A → List ℕ) → List A → List ℕ
joined bytes [] = []
joined bytes (x ∷ xs) = bytes x ++ joined bytes xs

-- Numbers with zeros behind them, as many in all as the width.
abbrev pub padded : ℕ → List ℕ → List ℕ
padded width xs = xs ++ replicate (width - length xs) 0

-- Every element passes a test.
abbrev pub every : {A : Type 0} → (A → Bool) → List A → Bool
every p [] = true
every p (x ∷ xs) = p x && every p xs

-- Two lists have the same bytes, every one of them.
abbrev pub same_bytes : List ℕ → List ℕ → Bool
same_bytes [] [] = true
same_bytes [] (y ∷ ys) = false
same_bytes (x ∷ xs) [] = false
same_bytes (x ∷ xs) (y ∷ ys) = eqb x y && same_bytes xs ys

-- Each number is above the one before it; in `Above`, the first is above t.
abbrev pub Above : ℕ → List ℕ → Type 0
Above t [] = Unit {0}
Above t (x ∷ xs) = (t < x) × Above x xs

abbrev pub Rising : List ℕ → Type 0
Rising [] = Unit {0}
Rising (x ∷ xs) = Above x xs
