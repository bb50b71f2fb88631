-- Finding a number among numbers that rise, by halving: a step, a run of it with a budget, and what is proved of them, for every count.
use Rattle.std.specs.Prelude.{ℕ, zero, suc, ◌+◌, ◌-◌, ◌/◌, ◌^◌, ◌<◌, ◌≤◌, ◌≡◌, Bool, true, false, cond, List, [], ◌∷◌, map, ◌↔◌, eqb, ltb, length, get_or}
use Rattle.ground.specs.Lists.{Rising}
use Rattle.halving.specs.declared.Search.{Search}

-- ## The search

-- The window of all of n places.
abbrev pub all_places : ℕ → Search
all_places n = record { low = 0; high = n; found = false }

-- A search is settled once its window is empty.
abbrev pub unsettled : Search → Bool
unsettled s = ltb s.low s.high

-- How many places the window has, and the one in its middle.
abbrev pub width_of : Search → ℕ
width_of s = s.high - s.low

abbrev pub middle_of : Search → ℕ
middle_of s = s.low + width_of s / 2

-- The part behind the middle, the part before it, and the middle itself, where the number is found.
abbrev pub behind_middle : Search → Search
behind_middle s = record { low = middle_of s + 1; high = s.high; found = false }

abbrev pub before_middle : Search → Search
before_middle s = record { low = s.low; high = middle_of s; found = false }

abbrev pub at_middle : Search → Search
at_middle s = record { low = middle_of s; high = middle_of s; found = true }

-- A look in a search for k, where x stands in the middle. A settled search stays as it is.
unfoldable pub looked : (k x : ℕ) → Search → Search
looked k x s = cond (unsettled s) (cond (ltb x k) (behind_middle s) (cond (ltb k x) (before_middle s) (at_middle s))) s

-- A look at a list is at one number of it.
abbrev pub looked_in : (k : ℕ) → List ℕ → Search → Search
looked_in k xs s = looked k (get_or xs (middle_of s) 0) s

-- So many looks.
abbrev pub after_looks : ℕ → (k : ℕ) → List ℕ → Search → Search
after_looks zero k xs s = s
after_looks (suc n) k xs s = after_looks n k xs (looked_in k xs s)

-- How many binary digits a number has: as often as it can be halved before it is 0. (No number n can more than n times.)
abbrev pub digits_up_to : ℕ → ℕ → ℕ
digits_up_to zero n = 0
digits_up_to (suc most) n = cond (eqb n 0) 0 (suc (digits_up_to most (n / 2)))

unfoldable pub binary_digits : ℕ → ℕ
binary_digits n = digits_up_to n n

-- The whole search in a list, with as many looks as its length has binary digits.
unfoldable pub halved : ℕ → List ℕ → Search
halved k xs = after_looks (binary_digits (length xs)) k xs (all_places (length xs))

-- ## What is proved of it

-- A number of d digits is below 2^d, and from 2^(d-1) on.
abbrev pub DigitsCount : Type 0
DigitsCount = (n : ℕ) → (n < 2 ^ binary_digits n) × (0 < n → 2 ^ (binary_digits n - 1) ≤ n)

-- "32: six"
abbrev pub DigitsKnown : Type 0
DigitsKnown = map binary_digits (0 ∷ 1 ∷ 2 ∷ 3 ∷ 31 ∷ 32 ∷ 128 ∷ []) ≡ 0 ∷ 1 ∷ 2 ∷ 2 ∷ 5 ∷ 6 ∷ 8 ∷ []

-- A look leaves a part of the window: nothing outside of it, and half of it at most.
pub record HalfOf (s before : Search) : Type 0 where
  pub low : before.low ≤ s.low
  pub high : s.high ≤ before.high
  pub half : width_of s ≤ width_of before / 2

abbrev pub LookHalves : Type 0
LookHalves = (k x : ℕ) (s : Search) → s.low < s.high → HalfOf (looked k x s) s

-- A window is settled after as many looks as it has binary digits, however wide it is and whatever stands in the list.
abbrev pub WindowSettles : Type 0
WindowSettles = (k : ℕ) (xs : List ℕ) (s : Search) → unsettled (after_looks (binary_digits (width_of s)) k xs s) ≡ false

-- The search is settled; k stands at a place exactly if it was found there, and nowhere exactly if it wasn't found.
pub record Located (k : ℕ) (xs : List ℕ) (s : Search) : Type 0 where
  pub settled : unsettled s ≡ false
  pub place : (i : ℕ) → ((s.found ≡ true) × (s.low ≡ i)) ↔ ((i < length xs) × (get_or xs i 0 ≡ k))
  pub nowhere : (s.found ≡ false) ↔ ((i : ℕ) → i < length xs → get_or xs i 0 ≡ k → ⊥)

abbrev pub HalvingLocates : Type 0
HalvingLocates = (k : ℕ) (xs : List ℕ) → Rising xs → Located k xs (halved k xs)

-- Whether the numbers rise or not, what is found is there.
abbrev pub HalvingInside : Type 0
HalvingInside = (k : ℕ) (xs : List ℕ) → let s = halved k xs in s.found ≡ true → (s.low < length xs) × (get_or xs s.low 0 ≡ k)
