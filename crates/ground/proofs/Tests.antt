-- Tests and what they say: of numbers, of two lists, of every element of a list.
use Prim.Native.Nat.{ℕ, zero, suc, suc-le-suc, ◌<◌, ◌≤◌}
use mathlib.Core.Path.{◌≡◌, refl, sym, ap, ◌∙◌}
use mathlib.Core.Logic.{◌↔◌, ◌⊎◌, inl, inr, ⊎_elim}
use mathlib.Core.Bool.{Bool, true, false, not, ◌&&◌, ◌||◌, true≢false, and-eq-true_iff}
use mathlib.Core.List.{List, [], ◌∷◌}
use native.Mathlib.Nat.{le_of_suc-le-suc}
use native.Mathlib.Omega.{arith}
use borrow.Author.Tests.{leb-true, le-leb, lt-leb, lt-ltb, le-ltb, eqb-true, eq-eqb, ne_eqb, not-true, not-false}
use lib.Dec.{leb, eqb}
use lib.ListN.{length, get_or}
use Rattle.ground.specs.Lists.{same_bytes, every}

-- ## One test

-- what a comparison of the code says of a test
pub ruleset tests = (lt-ltb, le-ltb, eq-eqb, ne_eqb, le-leb, lt-leb)

pub leb_iff : (a b : ℕ) → (leb a b ≡ true) ↔ (a ≤ b)
leb_iff a b = (leb-true a b, le-leb a b)

pub eqb_iff : (a b : ℕ) → (eqb a b ≡ true) ↔ (a ≡ b)
eqb_iff a b = (eqb-true a b, eq-eqb a b)

-- a test that fails, and what does not hold then
pub refutes : {t : Bool} {P : Type 0} → (t ≡ true) ↔ P → t ≡ false → P → ⊥
refutes e f p = true≢false (sym (e.1 p) ∙ f)

pub fails : {t : Bool} {P : Type 0} → (t ≡ true) ↔ P → (P → ⊥) → t ≡ false
fails {t = true} e h = absurd (h (e.0 refl))
fails {t = false} e h = refl

pub not_iff : {t : Bool} {P : Type 0} → (t ≡ true) ↔ P → (not t ≡ true) ↔ (P → ⊥)
not_iff {t} e = (λ h. refutes e (not-true t h), λ h. ap not (fails e h))

pub and_iff : {s t : Bool} {P Q : Type 0} → (s ≡ true) ↔ P → (t ≡ true) ↔ Q → ((s && t) ≡ true) ↔ (P × Q)
and_iff {s} {t} p q = (
  λ h. (p.0 ((and-eq-true_iff s t).0 h).0, q.0 ((and-eq-true_iff s t).0 h).1),
  λ h. (and-eq-true_iff s t).1 (p.1 h.0, q.1 h.1),
)

pub or_iff : {s t : Bool} {P Q : Type 0} → (s ≡ true) ↔ P → (t ≡ true) ↔ Q → ((s || t) ≡ true) ↔ (P ⊎ Q)
or_iff {s = true} {t} p q = (λ h. inl (p.0 refl), λ w. refl)
or_iff {s = false} {t} p q = ((λ h. inr (q.0 h)), ⊎_elim (λ x. absurd (true≢false (sym (p.1 x)))) (λ y. q.1 y))

pub not_or : (s t : Bool) → not (s || t) ≡ (not s && not t)
not_or true t = refl
not_or false t = refl

pub neither : {s t : Bool} {P Q : Type 0} → (s ≡ true) ↔ P → (t ≡ true) ↔ Q → (not (s || t) ≡ true) ↔ ((P → ⊥) × (Q → ⊥))
neither {s} {t} p q = rw (not_or s t) (and_iff (not_iff p) (not_iff q))

pub iff_trans : {P Q R : Type 0} → P ↔ Q → Q ↔ R → P ↔ R
iff_trans p q = ((λ x. q.0 (p.0 x)), λ y. p.1 (q.1 y))

-- what the test of `!f(..)` tells of what f says
pub said_no : {r says : Bool} → r ≡ says → not r ≡ true → says ≡ false
said_no e h = sym e ∙ not-true _ h

pub said_yes : {r says : Bool} → r ≡ says → not r ≡ false → says ≡ true
said_yes e h = sym e ∙ not-false _ h

-- ## Two lists

same_to : (xs ys : List ℕ) → same_bytes xs ys ≡ true → xs ≡ ys
same_to [] [] e = refl
same_to [] (y ∷ ys) e = absurd (true≢false (sym e))
same_to (x ∷ xs) [] e = absurd (true≢false (sym e))
same_to (x ∷ xs) (y ∷ ys) e =
    let h = (and-eq-true_iff (eqb x y) (same_bytes xs ys)).0 e in
    rw (eqb-true x y h.0, same_to xs ys h.1)

same_refl : (xs : List ℕ) → same_bytes xs xs ≡ true
same_refl [] = refl
same_refl (x ∷ xs) = rw (eq-eqb x x refl) (same_refl xs)

pub same_iff : (xs ys : List ℕ) → (same_bytes xs ys ≡ true) ↔ (xs ≡ ys)
same_iff xs ys = (same_to xs ys, λ e. rw e (same_refl ys))

-- ## Every element

module _ {A : Type 0} (z : A) (p : A → Bool) (P : A → Type 0) (iff : (x : A) → (p x ≡ true) ↔ P x) where
  every_to : (xs : List A) → every p xs ≡ true → (i : ℕ) → i < length xs → P (get_or xs i z)
  every_to [] e i h = absurd (omega arith)
  every_to (x ∷ xs) e zero h = (iff x).0 ((and-eq-true_iff (p x) (every p xs)).0 e).0
  every_to (x ∷ xs) e (suc i) h = every_to xs ((and-eq-true_iff (p x) (every p xs)).0 e).1 i (le_of_suc-le-suc h)

  every_from : (xs : List A) → ((i : ℕ) → i < length xs → P (get_or xs i z)) → every p xs ≡ true
  every_from [] h = refl
  every_from (x ∷ xs) h =
      (and-eq-true_iff (p x) (every p xs)).1 ((iff x).1 (h 0 (omega arith)), every_from xs (λ i l. h (suc i) (suc-le-suc l)))

  pub every_iff : (xs : List A) → (every p xs ≡ true) ↔ ((i : ℕ) → i < length xs → P (get_or xs i z))
  every_iff xs = (every_to xs, every_from xs)
