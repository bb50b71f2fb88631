-- An ordered table of tests: the first that holds decides.
use Rattle.std.specs.Prelude.{◌≡◌, refl, Bool, true, false, cond, List, [], ◌∷◌}
use Rattle.std.proofs.Math.Option.{Option, none, some}

-- A row: what is answered, and when.
pub record Test (A : Type 0) : Type 0 where
  pub answer : A
  pub holds : Bool

abbrev pub test : {A : Type 0} → A → Bool → Test A
test a c = record { answer = a; holds = c }

-- The answer of the first row that holds, if one does.
abbrev pub first : {A : Type 0} → List (Test A) → Option A
first [] = none
first (t ∷ ts) = cond t.holds (some t.answer) (first ts)

-- What follows from an answer, and what from none.
unfoldable pub decide {ℓ} : {A : Type 0} {B : Type ℓ} → Option A → (A → B) → B → B
decide none stop go = go
decide (some a) stop go = stop a

pub by_first {ℓ κ} : {A : Type 0} {B : Type ℓ} (P : B → Type κ) (o : Option A) {stop : A → B} {go : B}
    → ((a : A) → o ≡ some a → P (stop a)) → (o ≡ none → P go) → P (decide o stop go)
unfolding decide
by_first P none f g = g refl
by_first P (some a) f g = f a refl

-- A choice by a test, shut, so that a proof goes through a tree of tests by `by_test` and finds the tests itself.
unfoldable pub pick {ℓ} : {A : Type ℓ} → Bool → A → A → A
pick true x y = x
pick false x y = y

pub by_test {ℓ κ} : {A : Type ℓ} (P : A → Type κ) {c : Bool} {x y : A} → (c ≡ true → P x) → (c ≡ false → P y) → P (pick c x y)
unfolding pick
by_test P {c = true} f g = f refl
by_test P {c = false} f g = g refl
