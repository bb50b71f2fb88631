-- What `all` of a chain answers is what `every` of the definitions says.
use Prim.Native.Nat.{ℕ, ◌<◌}
use mathlib.Core.Path.{◌≡◌, refl, sym}
use mathlib.Core.Logic.{◌↔◌}
use mathlib.Core.Bool.{Bool, true, false}
use mathlib.Core.List.{List}
use lib.ListN.{length, get_or}
use Rattle.ground.specs.Lists.{every}
use Rattle.ground.proofs.Tests.{every_iff, refutes, fails}

-- two tests that say the same are equal
same_test : {s t : Bool} {P : Type 0} → (s ≡ true) ↔ P → (t ≡ true) ↔ P → s ≡ t
same_test {s = true} p q = sym (q.1 (p.0 refl))
same_test {s = false} p q = sym (fails q (refutes p refl))

pub all_is : {A : Type 0} (z : A) (p : A → Bool) (xs : List A) {b : Bool}
    → (b ≡ true) ↔ ((i : ℕ) → i < length xs → p (get_or xs i z) ≡ true) → b ≡ every p xs
all_is z p xs h = same_test h (every_iff z p (λ x. p x ≡ true) (λ x. ((λ e. e), λ e. e)) xs)
