-- Cases: those of a test, and those that can't be.
use Prim.Native.Nat.{ℕ, ◌≤◌, ◌<◌}
use native.Mathlib.Omega.{arith}
use mathlib.Core.Path.{◌≡◌, refl}
use mathlib.Core.Bool.{Bool, true, false, cond}
use mathlib.Core.Option.{none, some}
use lib.Dec.{eqb}
use borrow.Author.Tests.{eqb-true, eqb-false}

-- a choice by a test, with what the test tells in each case
pub by_cond {κ} : {A : Type 0} (P : A → Type κ) (c : Bool) {x y : A} → (c ≡ true → P x) → (c ≡ false → P y) → P (cond c x y)
by_cond P true f g = f refl
by_cond P false f g = g refl

-- two constructors that an injection tells apart
pub differ : {A : Type 0} → ◌≡◌ {A = ℕ} 0 1 → A
differ z = absurd (omega arith)

pub not_some : {A B : Type 0} {x : B} → none ≡ some x → A
not_some {x = x} h = differ (cc)

-- a test that can't hold
pub never_true : (b : Bool) → (b ≡ true → ⊥) → b ≡ false
never_true true h = absurd (h refl)
never_true false h = refl

pub not_less : (a b : ℕ) → (a < b → ⊥) → b ≤ a
not_less a b h = omega arith

-- one of two numbers, and not the first
pub second : (a b c : ℕ) → ((a ≡ b → ⊥) × (a ≡ c → ⊥) → ⊥) → (a ≡ b → ⊥) → a ≡ c
second a b c h n = at (eqb a c) refl
  where
    at : (k : Bool) → eqb a c ≡ k → a ≡ c
    at true e = eqb-true a c e
    at false e = absurd (h (n, eqb-false a c e))
