-- An ordered table of conditions, as the rules write it: an answer is given exactly when its row holds and none before it.
use Rattle.std.specs.Prelude.{◌≡◌, List, [], ◌∷◌, ◌⊎◌}

pub record Row (A : Type 0) : Type 1 where
  pub answer : A
  pub when : Type 0

abbrev pub row : {A : Type 0} → A → Type 0 → Row A
row a P = record { answer = a; when = P }

-- An answer is that of the first row that holds.
abbrev pub Gives : {A : Type 0} → List (Row A) → A → Type 0
Gives [] a = ⊥
Gives (r ∷ rs) a = (r.when × (a ≡ r.answer)) ⊎ ((r.when → ⊥) × Gives rs a)

-- No row holds.
abbrev pub Clear : {A : Type 0} → List (Row A) → Type 0
Clear [] = Unit
Clear (r ∷ rs) = (r.when → ⊥) × Clear rs
