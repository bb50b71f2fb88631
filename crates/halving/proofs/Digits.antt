-- How many binary digits a number has.
use Prim.Native.Nat.{ℕ, zero, suc, ◌+◌, ◌*◌, ◌-◌, ◌/◌, ◌^◌, ◌≤◌, ◌<◌}
use mathlib.Core.Path.{◌≡◌, refl, ap, ◌∙◌, subst}
use mathlib.Core.Bool.{Bool, true, false}
use native.Mathlib.Omega.{arith}
use native.Mathlib.Nat.{pow-suc}
use borrow.Author.Tests.{eqb-true, eqb-false, eq-eqb, ne_eqb}
use lib.Dec.{eqb}
use Rattle.std.proofs.lemmas.Nat.{pow_pos}
use Rattle.halving.specs.Halving.{digits_up_to, binary_digits, DigitsCount, DigitsKnown}

-- any bound that suffices gives the same
same_up_to : (j k n : ℕ) → n ≤ j → n ≤ k → digits_up_to j n ≡ digits_up_to k n
same_up_to zero zero n p q = refl
same_up_to zero (suc k) n p q = rw (eq-eqb n 0 (omega arith))
same_up_to (suc j) zero n p q = rw (eq-eqb n 0 (omega arith))
same_up_to (suc j) (suc k) n p q = at (eqb n 0) refl (same_up_to j k (n / 2))
  where
    at : (t : Bool) → eqb n 0 ≡ t → (n / 2 ≤ j → n / 2 ≤ k → digits_up_to j (n / 2) ≡ digits_up_to k (n / 2)) → digits_up_to (suc j) n ≡ digits_up_to (suc k) n
    at true e h = rw e
    at false e h = let l : 0 < n = omega (arith, eqb-false n 0 e) in rw (e, h (omega arith) (omega arith))

pub digits_none : binary_digits 0 ≡ 0
unfolding binary_digits
digits_none = refl

-- one more than its half has
pub digits_more : (n : ℕ) → 0 < n → binary_digits n ≡ suc (binary_digits (n / 2))
unfolding binary_digits
digits_more zero h = absurd (omega arith)
digits_more (suc m) h = rw (ne_eqb (suc m) 0 (λ e. omega arith), same_up_to m (suc m / 2) (suc m / 2) (omega arith) (omega arith))

-- by halves down to none
pub by_halves : (P : ℕ → Type 0) → P 0 → ((n : ℕ) → 0 < n → P (n / 2) → P n) → (n : ℕ) → P n
by_halves P none more n = below n n (omega arith)
  where
    below : (k n : ℕ) → n ≤ k → P n
    below zero n h = let e : 0 ≡ n = omega arith in subst P e none
    below (suc k) n h = at (eqb n 0) refl (below k (n / 2))
      where
        at : (t : Bool) → eqb n 0 ≡ t → (n / 2 ≤ k → P (n / 2)) → P n
        at true e f = let z : 0 ≡ n = omega (arith, eqb-true n 0 e) in subst P z none
        at false e f = let l : 0 < n = omega (arith, eqb-false n 0 e) in more n l (f (omega arith))

pub digits-most : (n : ℕ) → binary_digits n ≤ n
digits-most = by_halves (λ n. binary_digits n ≤ n) (rw digits_none (omega arith)) (λ n h b. rw (digits_more n h) (omega arith))

abbrev Counts : ℕ → Type 0
Counts n = (n < 2 ^ binary_digits n) × (0 < n → 2 ^ (binary_digits n - 1) ≤ n)

counts-none : Counts 0
counts-none = rw digits_none (omega arith, λ h. absurd (omega arith))

counts-more : (n : ℕ) → 0 < n → Counts (n / 2) → Counts n
counts-more n h c = rw (digits_more n h) (above, λ _. below (binary_digits (n / 2)) refl)
  where
    above : n < 2 ^ suc (binary_digits (n / 2))
    above = rw (pow-suc 2 (binary_digits (n / 2))) (omega (arith, c.0))

    less : (d : ℕ) → suc d - 1 ≡ d
    less d = omega arith

    below : (d : ℕ) → binary_digits (n / 2) ≡ d → 2 ^ (suc d - 1) ≤ n
    below zero e = omega arith
    below (suc d) e =
        let some : 0 < n / 2 = omega (arith, digits-most (n / 2)) in
        let low : 2 ^ (suc d - 1) ≤ n / 2 = rw e at (c.1 some) in
        let lower : 2 ^ d ≤ n / 2 = rw (less d) at low in
        rw (less (suc d), pow-suc 2 d) (omega arith)

pub digits-count : DigitsCount
digits-count = by_halves Counts counts-none counts-more

-- that of a number from 2^d up to 2^(d+1)
pub digits_are : (n d : ℕ) → 2 ^ d ≤ n → n < 2 * 2 ^ d → binary_digits n ≡ d + 1
digits_are n zero p q =
    let one : 1 ≡ n = omega (arith, p, q) in
    rw (← one) (digits_more 1 (omega arith) ∙ ap suc digits_none)
digits_are n (suc d) p q =
    let low : 2 ^ d * 2 ≤ n = rw (pow-suc 2 d) at p in
    let high : n < 2 * (2 ^ d * 2) = rw (pow-suc 2 d) at q in
    let half : binary_digits (n / 2) ≡ d + 1 = digits_are (n / 2) d (omega arith) (omega arith) in
    omega (arith, digits_more n (omega (arith, pow_pos d)), half)

pub digits_known : DigitsKnown
unfolding binary_digits
digits_known = refl
