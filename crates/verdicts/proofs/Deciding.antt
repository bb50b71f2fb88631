-- What a comparison of the code says of a test, and what an answer says of a table.
use Prim.Native.Nat.{ℕ}
use mathlib.Core.Path.{◌≡◌, refl, sym, ap, ◌∙◌}
use mathlib.Core.Bool.{Bool, true, false, cond}
use mathlib.Core.List.{List, [], ◌∷◌, ◌++◌}
use mathlib.Core.Option.{Option, none, some}
use Rattle.wire.specs.Codes
use Rattle.messages.specs.declared.message.Header.{Header}
use Rattle.limits.specs.Limits
use Rattle.std.specs.Prelude.{Result, Ok, Err, ⊤}
use Rattle.ground.specs.Tests.{Test, test, first, decide}
use Rattle.verdicts.specs.Numbers.{numbered}
use Rattle.verdicts.specs.Verdicts.{verdict_of, fault, transfer_tests, header_tests}

-- ## The first test that holds, by the code's answer

-- a verdict is that of one outcome only
abbrev why : {E : Type 0} → Result ⊤ E → Option E
why (Ok u) = none
why (Err e) = some e

inverse : {E : Type 0} (o : Option E) → why (verdict_of o) ≡ o
inverse none = refl
inverse (some e) = refl

of_verdict : {E : Type 0} (o : Option E) (v : Result ⊤ E) → v ≡ verdict_of o → o ≡ why v
of_verdict o v e = sym (inverse o) ∙ ap why (sym e)

pub first_err : {E : Type 0} (o : Option E) (v : Result ⊤ E) (x : E) → v ≡ verdict_of o → v ≡ Err x → o ≡ some x
first_err o v x e h = of_verdict o v e ∙ ap why h

pub first_ok : {E : Type 0} (o : Option E) (v : Result ⊤ E) (u : ⊤) → v ≡ verdict_of o → v ≡ Ok u → o ≡ none
first_ok o v u e h = of_verdict o v e ∙ ap why h

-- ## A table with its numbers

pub first_numbered : {A : Type 0} (f : A → ℕ) (ts : List (Test A)) → first (numbered f ts) ≡ decide (first ts) (λ a. some (f a)) none
unfolding decide
first_numbered f [] = refl
first_numbered f (t ∷ ts) = at t.holds (first_numbered f ts)
  where
    at : (c : Bool) → first (numbered f ts) ≡ decide (first ts) (λ a. some (f a)) none
        → cond c (some (f t.answer)) (first (numbered f ts)) ≡ decide (cond c (some t.answer) (first ts)) (λ a. some (f a)) none
    at true e = refl
    at false e = e

pub decide_numbered {ℓ} : {A : Type 0} {B : Type ℓ} (f : A → ℕ) (ts : List (Test A)) (stop : ℕ → B) (go : B)
    → decide (first (numbered f ts)) stop go ≡ decide (first ts) (λ a. stop (f a)) go
unfolding decide
decide_numbered f ts stop go = ap (λ o. decide o stop go) (first_numbered f ts) ∙ twice (first ts)
  where
    twice : (o : Option _) → decide (decide o (λ a. some (f a)) none) stop go ≡ decide o (λ a. stop (f a)) go
    twice none = refl
    twice (some a) = refl

-- ## A table in two parts

first-append : {A : Type 0} (ts us : List (Test A)) → first (ts ++ us) ≡ decide (first ts) some (first us)
unfolding decide
first-append [] us = refl
first-append (t ∷ ts) us = at t.holds (first-append ts us)
  where
    at : (c : Bool) → first (ts ++ us) ≡ decide (first ts) some (first us)
        → cond c (some t.answer) (first (ts ++ us)) ≡ decide (cond c (some t.answer) (first ts)) some (first us)
    at true e = refl
    at false e = e

-- a submit: its own fields first, then whether its seqnum is pending
pub submit-first : (h : Header) (devid : ℕ) (taken : Bool) → h.command ≡ Codes.CMD-SUBMIT
    → let pending = fault Limits.SEQNUM-PENDING Codes.SEQNUM-AT in
    first (header_tests h devid taken) ≡ decide (first (transfer_tests h.transfer)) some (cond taken (some pending) none)
submit-first h devid taken e = rw e (first-append (transfer_tests h.transfer) (test (fault Limits.SEQNUM-PENDING Codes.SEQNUM-AT) taken ∷ []))
