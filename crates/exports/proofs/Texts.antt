-- The rule for a path and for a busid: what the first zero of the bytes is, and that the test and the rule agree, at any size.
use Prim.Native.Nat.{ℕ, zero, suc, suc-le-suc, ◌+◌, ◌-◌, ◌<◌}
use mathlib.Core.Path.{◌≡◌, refl, sym, ap, ◌∙◌}
use mathlib.Core.Logic.{◌↔◌}
use mathlib.Core.Bool.{Bool, true, false, cond, and-false}
use mathlib.Core.List.{List, [], ◌∷◌}
use native.Mathlib.Nat.{add-zero, le_of_suc-le-suc}
use native.Mathlib.Omega.{arith}
use borrow.Author.Tests.{eqb-true, eqb-false, eq-eqb, ne_eqb, le-ltb}
use lib.Dec.{eqb, ltb}
use lib.ListN.{length, drop, get_or, length-drop, get_or-eq_default}
use lib.Seq.{get_or-drop}
use Rattle.exports.specs.Rules.{first_zero, text, Text}
use Rattle.ground.proofs.Tests.{leb_iff, eqb_iff, and_iff, every_iff}

-- ## The first zero

first_is_zero : (bs : List ℕ) → get_or bs (first_zero bs) 0 ≡ 0
first_is_zero [] = refl
first_is_zero (b ∷ bs) = at (eqb b 0) refl (first_is_zero bs)
  where
    at : (t : Bool) → eqb b 0 ≡ t → get_or bs (first_zero bs) 0 ≡ 0 → get_or (b ∷ bs) (cond t 0 (suc (first_zero bs))) 0 ≡ 0
    at true e r = eqb-true b 0 e
    at false e r = r

none_before : (bs : List ℕ) (j : ℕ) → j < first_zero bs → get_or bs j 0 ≡ 0 → ⊥
none_before [] j h = absurd (omega arith)
none_before (b ∷ bs) j h = at (eqb b 0) refl j h (none_before bs)
  where
    at : (t : Bool) → eqb b 0 ≡ t → (j : ℕ) → j < cond t 0 (suc (first_zero bs))
        → ((k : ℕ) → k < first_zero bs → get_or bs k 0 ≡ 0 → ⊥) → get_or (b ∷ bs) j 0 ≡ 0 → ⊥
    at true q j h r e = omega arith
    at false q zero h r e = eqb-false b 0 q e
    at false q (suc j) h r e = r j (le_of_suc-le-suc h) e

pub first_is_least : (bs : List ℕ) (n : ℕ) → get_or bs n 0 ≡ 0 → ((j : ℕ) → j < n → get_or bs j 0 ≡ 0 → ⊥) → first_zero bs ≡ n
first_is_least [] zero e h = refl
first_is_least [] (suc n) e h = absurd (h 0 (omega arith) refl)
first_is_least (b ∷ bs) zero e h = rw (eq-eqb b 0 e)
first_is_least (b ∷ bs) (suc n) e h =
    rw (ne_eqb b 0 (h 0 (omega arith))) (ap suc (first_is_least bs n e (λ j l. h (suc j) (suc-le-suc l))))

pub no_zero : (bs : List ℕ) → ((j : ℕ) → j < length bs → get_or bs j 0 ≡ 0 → ⊥) → text bs ≡ false
unfolding text
no_zero bs h =
    rw (first_is_least bs (length bs) (get_or-eq_default bs 0 (omega arith)) h, le-ltb (length bs) (length bs) (omega arith), and-false (ltb 0 (length bs)))
    refl

-- ## The rule

module _ (bs : List ℕ) where
  -- the three parts of the test
  abbrev Parts : Type 0
  Parts = ((0 < first_zero bs) × (first_zero bs < length bs)) × ((i : ℕ) → i < length (drop (first_zero bs) bs) → get_or (drop (first_zero bs) bs) i 0 ≡ 0)

  parts : (text bs ≡ true) ↔ Parts
  unfolding text
  parts =
      and_iff (and_iff (leb_iff 1 (first_zero bs)) (leb_iff (suc (first_zero bs)) (length bs)))
      (every_iff 0 (λ b. eqb b 0) (λ b. b ≡ 0) (λ b. eqb_iff b 0) (drop (first_zero bs) bs))

  text_to : Parts → Text bs
  text_to p =
      let z = first_zero bs in
      record {
        starts = none_before bs 0 p.0.0;
        end = z;
        inside = p.0.1;
        zero = first_is_zero bs;
        first = none_before bs;
        rest = λ j h l.
            let e : z + (j - z) ≡ j = omega arith in
            rw e at (sym (get_or-drop z bs (j - z) 0) ∙ p.1 (j - z) (rw length-drop (omega arith)));
      }

  text_from : Text bs → Parts
  text_from t =
      let e : first_zero bs ≡ t.end = first_is_least bs t.end t.zero t.first in
      ((rw e (past_start t.end t.zero), rw e t.inside), λ i h. rw e (get_or-drop t.end bs i 0 ∙ zero_there i (rw e at h)))
    where
      past_start : (n : ℕ) → get_or bs n 0 ≡ 0 → 0 < n
      past_start zero h = absurd (t.starts h)
      past_start (suc n) h = omega arith

      zero_there : (i : ℕ) → i < length (drop t.end bs) → get_or bs (t.end + i) 0 ≡ 0
      zero_there zero h = rw (add-zero t.end) t.zero
      zero_there (suc i) h = t.rest (t.end + suc i) (omega arith) (omega (arith, length-drop t.end bs))

  pub text_iff : (text bs ≡ true) ↔ Text bs
  text_iff = (λ h. text_to (parts.0 h), λ t. parts.1 (text_from t))
