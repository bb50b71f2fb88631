-- A search by halving settles within its looks, and finds what is there.
use Prim.Native.Nat.{ℕ, zero, suc, ◌*◌, ◌/◌, ◌^◌, ◌≤◌, ◌<◌}
use mathlib.Core.Path.{◌≡◌, refl, sym, ap, ◌∙◌}
use mathlib.Core.Bool.{Bool, true, false, true≢false}
use mathlib.Core.List.{List, [], ◌∷◌}
use native.Mathlib.Nat.{not-suc-le-zero, le_of_suc-le-suc, pow-suc, pow-zero}
use native.Mathlib.Omega.{arith}
use borrow.Author.Tests.{ltb-true, ltb-false, le-ltb}
use lib.Dec.{ltb}
use lib.ListN.{length, get_or}
use Rattle.ground.specs.Lists.{Above, Rising}
use Rattle.ground.proofs.Cases.{by_cond}
use Rattle.halving.specs.declared.Search.{Search}
use Rattle.halving.specs.Halving.{all_places, unsettled, width_of, middle_of, behind_middle, before_middle, at_middle, looked, looked_in, after_looks}
use Rattle.halving.specs.Halving.{binary_digits, halved, HalfOf, LookHalves, WindowSettles, Located, HalvingLocates, HalvingInside}
use Rattle.halving.proofs.Digits.{digits-count}

-- ## A look

-- what holds of a search that is settled, and of the three that a look can leave, holds after the look
by_look : (P : Search → Type 0) (k x : ℕ) (s : Search)
    → (s.high ≤ s.low → P s)
    → (s.low < s.high → x < k → P (behind_middle s))
    → (s.low < s.high → k < x → P (before_middle s))
    → (s.low < s.high → x ≡ k → P (at_middle s))
    → P (looked k x s)
unfolding looked
by_look P k x s still behind before hit =
    by_cond P (unsettled s)
    (λ o.
    let w = ltb-true s.low s.high o in
    by_cond P (ltb x k) (λ e. behind w (ltb-true x k e))
    (λ e. by_cond P (ltb k x) (λ f. before w (ltb-true k x f)) (λ f. hit w (omega (arith, ltb-false x k e, ltb-false k x f)))))
    (λ o. still (ltb-false s.low s.high o))

pub look_halves : LookHalves
look_halves k x s h =
    by_look (λ t. HalfOf t s) k x s (λ o. absurd (omega arith)) (λ _ _. record { low = omega arith; high = omega arith; half = omega arith })
    (λ _ _. record { low = omega arith; high = omega arith; half = omega arith })
    (λ _ _. record { low = omega arith; high = omega arith; half = omega arith })

-- a settled one stays as it is
look_settled : (k x : ℕ) (s : Search) → s.high ≤ s.low → looked k x s ≡ s
look_settled k x s h =
    by_look (λ t. t ≡ s) k x s (λ _. refl) (λ o _. absurd (omega arith)) (λ o _. absurd (omega arith)) (λ o _. absurd (omega arith))

narrows : (k x : ℕ) (s : Search) → width_of (looked k x s) ≤ width_of s / 2
narrows k x s =
    by_look (λ t. width_of t ≤ width_of s / 2) k x s (λ h. omega arith) (λ h l. omega arith) (λ h l. omega arith) (λ h e. omega arith)

module _ (k : ℕ) (xs : List ℕ) where
  pub looks_settled : (n : ℕ) (s : Search) → s.high ≤ s.low → after_looks n k xs s ≡ s
  looks_settled zero s h = refl
  looks_settled (suc n) s h = ap (after_looks n k xs) (look_settled k _ s h) ∙ looks_settled n s h

  -- ## Enough looks

  enough : (d : ℕ) (s : Search) → width_of s < 2 ^ d → unsettled (after_looks d k xs s) ≡ false
  enough zero s h = le-ltb s.low s.high (omega (arith, rw (pow-zero 2) at h))
  enough (suc d) s h =
      let w : width_of s < 2 ^ d * 2 = rw (pow-suc 2 d) at h in
      let n : width_of (looked_in k xs s) ≤ width_of s / 2 = narrows k _ s in
      enough d (looked_in k xs s) (omega arith)

  -- what every look keeps, it has after any number of them
  looks_keep : (P : Search → Type 0) → ((s : Search) → P s → P (looked_in k xs s)) → (n : ℕ) (s : Search) → P s → P (after_looks n k xs s)
  looks_keep P keep zero s h = h
  looks_keep P keep (suc n) s h = looks_keep P keep n (looked_in k xs s) (keep s h)

  -- ## What is found is there

  record Inside (s : Search) : Type 0 where
    window : s.high ≤ length xs
    there : s.found ≡ true → (s.low < length xs) × (get_or xs s.low 0 ≡ k) × (s.high ≤ s.low)

  look_inside : (s : Search) → Inside s → Inside (looked_in k xs s)
  look_inside s i =
      by_look Inside k _ s (λ _. i) (λ _ _. record { window = i.window; there = λ e. absurd (true≢false (sym e)) })
      (λ w _. record { window = omega (arith, i.window); there = λ e. absurd (true≢false (sym e)) })
      (λ w e. record { window = omega (arith, i.window); there = λ _. (omega (arith, i.window), e, omega arith) })

  inside : Inside (halved k xs)
  unfolding halved
  inside =
      looks_keep Inside look_inside (binary_digits (length xs)) (all_places (length xs))
      (record { window = omega arith; there = λ e. absurd (true≢false (sym e)) })

  settled : unsettled (halved k xs) ≡ false
  unfolding halved
  settled = enough (binary_digits (length xs)) (all_places (length xs)) (omega (arith, (digits-count (length xs)).0))

pub window_settles : WindowSettles
window_settles k xs s = enough k xs (binary_digits (width_of s)) s (digits-count (width_of s)).0

pub halving_inside : HalvingInside
halving_inside k xs e = let i = (inside k xs).there e in (i.0, i.1)

-- ## Where numbers rise

above_at : (t : ℕ) (xs : List ℕ) (i : ℕ) → Above t xs → i < length xs → t < get_or xs i 0
above_at t [] i a h = absurd (not-suc-le-zero h)
above_at t (x ∷ xs) zero a h = a.0
above_at t (x ∷ xs) (suc i) a h = omega (arith, a.0, above_at x xs i a.1 (le_of_suc-le-suc h))

behind-first : (x : ℕ) (xs : List ℕ) → Above x xs → Rising xs
behind-first x [] a = tt
behind-first x (y ∷ ys) a = a.1

-- so they do from any place to any later one
rises : (xs : List ℕ) (i j : ℕ) → Rising xs → i < j → j < length xs → get_or xs i 0 < get_or xs j 0
rises [] i j r l h = absurd (not-suc-le-zero h)
rises (x ∷ xs) i zero r l h = absurd (not-suc-le-zero l)
rises (x ∷ xs) zero (suc j) r l h = above_at x xs j r (le_of_suc-le-suc h)
rises (x ∷ xs) (suc i) (suc j) r l h = rises xs i j (behind-first x xs r) (le_of_suc-le-suc l) (le_of_suc-le-suc h)

by_order : {A : Type 0} (i j : ℕ) → (i < j → A) → (j < i → A) → (i ≡ j → A) → A
by_order {A = A} i j less more same = at (ltb i j) refl (ltb j i) refl
  where
    at : (a : Bool) → ltb i j ≡ a → (b : Bool) → ltb j i ≡ b → A
    at true p b q = less (ltb-true i j p)
    at false p true q = more (ltb-true j i q)
    at false p false q = same (omega (arith, ltb-false i j p, ltb-false j i q))

module _ (k : ℕ) (xs : List ℕ) (r : Rising xs) where
  -- as long as the number isn't found, it stands in the window or nowhere
  record Left (s : Search) : Type 0 where
    kept : Inside k xs s
    only : s.found ≡ false → (i : ℕ) → i < length xs → get_or xs i 0 ≡ k → (s.low ≤ i) × (i < s.high)

  -- not at a place whose number is lower, and not before it
  behind_lower : (m i : ℕ) → m < length xs → get_or xs m 0 < k → get_or xs i 0 ≡ k → m < i
  behind_lower m i g l e =
      by_order m i (λ p. p) (λ p. absurd (omega (arith, rises xs i m r p g))) (λ p. absurd (omega (arith, ap (λ (j : ℕ). get_or xs j 0) p)))

  before_higher : (m i : ℕ) → i < length xs → k < get_or xs m 0 → get_or xs i 0 ≡ k → i < m
  before_higher m i h l e =
      by_order m i (λ p. absurd (omega (arith, rises xs m i r p h))) (λ p. p) (λ p. absurd (omega (arith, ap (λ (j : ℕ). get_or xs j 0) p)))

  -- a window that isn't settled has found nothing yet
  searching : (s : Search) → Inside k xs s → s.low < s.high → s.found ≡ false
  searching s i w = at s.found refl
    where
      at : (f : Bool) → s.found ≡ f → s.found ≡ false
      at false e = e
      at true e = absurd (omega (arith, (i.there e).2))

  look_left : (s : Search) → Left s → Left (looked_in k xs s)
  look_left s l =
      let m = middle_of s in
      let kept = look_inside k xs s l.kept in
      let only =
      by_look (λ t. t.found ≡ false → (i : ℕ) → i < length xs → get_or xs i 0 ≡ k → (t.low ≤ i) × (i < t.high)) k _ s
      (λ _. l.only)
      (λ w g _ i h e.
      let n = l.only (searching s l.kept w) i h e in
      (omega (arith, behind_lower m i (omega (arith, l.kept.window)) g e), n.1))
      (λ w g _ i h e.
      let n = l.only (searching s l.kept w) i h e in
      (n.0, before_higher m i h g e))
      (λ w g f. absurd (true≢false f)) in
      record { kept = kept; only = only }

  left : Left (halved k xs)
  unfolding halved
  left =
      looks_keep k xs Left look_left (binary_digits (length xs)) (all_places (length xs))
      (record {
        kept = record { window = omega arith; there = λ e. absurd (true≢false (sym e)) };
        only = λ _ i h _. (omega arith, h);
      })

  abbrev end : Search
  end = halved k xs

  gone : end.found ≡ false → (i : ℕ) → i < length xs → get_or xs i 0 ≡ k → ⊥
  gone f i h e = let n = left.only f i h e in omega (arith, n.0, n.1, ltb-false end.low end.high (settled k xs))

  -- two places have one number only if they are one
  one_place : (i j : ℕ) → i < length xs → j < length xs → get_or xs i 0 ≡ k → get_or xs j 0 ≡ k → i ≡ j
  one_place i j g h d e = by_order i j (λ p. absurd (omega (arith, rises xs i j r p h))) (λ p. absurd (omega (arith, rises xs j i r p g))) (λ p. p)

  located : Located k xs end
  located =
      record {
        settled = settled k xs;
        place = λ i. (λ e. at_place i e.0 e.1, λ h. stands end.found refl i h.0 h.1);
        nowhere = (gone, λ n. missing end.found refl n);
      }
    where
      at_place : (i : ℕ) → end.found ≡ true → end.low ≡ i → (i < length xs) × (get_or xs i 0 ≡ k)
      at_place i f e = let n = halving_inside k xs f in rw (← e) n

      stands : (f : Bool) → end.found ≡ f → (i : ℕ) → i < length xs → get_or xs i 0 ≡ k → (end.found ≡ true) × (end.low ≡ i)
      stands true f i h e = let n = halving_inside k xs f in (f, one_place end.low i n.0 h n.1 e)
      stands false f i h e = absurd (gone f i h e)

      missing : (f : Bool) → end.found ≡ f → ((i : ℕ) → i < length xs → get_or xs i 0 ≡ k → ⊥) → end.found ≡ false
      missing false f n = f
      missing true f n = let w = halving_inside k xs f in absurd (n end.low w.0 w.1)

pub halving_locates : HalvingLocates
halving_locates k xs r = located k xs r
