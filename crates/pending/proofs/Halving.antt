-- The search for a ticket by halving: its loop, and what it finds.
use Prim.Native.Nat.{ℕ, zero, suc, ◌-◌, ◌<◌, ◌≤◌}
use mathlib.Core.Path.{◌≡◌, refl, sym, ap, ◌∙◌}
use mathlib.Core.Logic.{◌↔◌}
use mathlib.Core.Bool.{Bool, true, false, ◌&&◌, true≢false}
use mathlib.Core.List.{List, [], ◌∷◌, Memᴰ}
use native.Mathlib.Omega.{arith}
use lib.Dec.{ltb}
use lib.ListN.{length, get_or, length-map}
use borrow.Author.Tests.{ltb-true, ltb-false, lt-ltb}
use Rattle.ground.specs.Lists.{Rising}
use Rattle.halving.specs.declared.Search.{Search}
use Rattle.halving.specs.Halving.{all_places, unsettled, middle_of, looked, after_looks, binary_digits, halved}
use Rattle.halving.proofs.Halving.{look_halves, looks_settled, window_settles, halving_inside, halving_locates}
use Rattle.pending.specs.declared.urb.Urb.{Urb}
use Rattle.pending.specs.Pending.{ticket_of, tickets, no_urb, Place, At, Nothing, place_by, place_halved, ticket_place, TicketPlaced, TicketInside}
use Rattle.pending.proofs.Finding.{place-first, place_none, find_none, element}

-- the ticket of the one at a place, past the end too
pub ticket_at : (us : List Urb) (i : ℕ) → get_or (tickets us) i 0 ≡ ticket_of (get_or us i no_urb)
ticket_at [] i = refl
ticket_at (u ∷ us) zero = refl
ticket_at (u ∷ us) (suc i) = ticket_at us i

-- ## The loop: looks are left, and the window isn't empty

goes_on : (s : Search) (left : ℕ) → ltb 0 left && unsettled s ≡ true → (0 < left) × (s.low < s.high)
goes_on s left e = at (ltb 0 left) refl (unsettled s) refl e
  where
    at : (a : Bool) → ltb 0 left ≡ a → (b : Bool) → unsettled s ≡ b → a && b ≡ true → (0 < left) × (s.low < s.high)
    at true p true q h = (ltb-true 0 left p, ltb-true s.low s.high q)
    at true p false q h = absurd (true≢false (sym h))
    at false p b q h = absurd (true≢false (sym h))

module _ (k : ℕ) (us : List Urb) where
  -- what is left of the looks gives the whole answer
  abbrev pub Halving : (left : ℕ) → Search → Type 0
  Halving left s = (s.high ≤ length us) × (after_looks left k (tickets us) s ≡ halved k (tickets us))

  pub look_first : Halving (binary_digits (length us)) (all_places (length us))
  unfolding halved
  look_first = (omega arith, rw (length-map us ticket_of) refl)

  pub look_more : (left : ℕ) (s : Search) → ltb 0 left && unsettled s ≡ true → Halving left s
      → Halving (left - 1) (looked k (ticket_of (get_or us (middle_of s) no_urb)) s)
  look_more zero s e i = let h = goes_on s 0 e in absurd (omega (arith, h.0))
  look_more (suc left) s e i =
      let h = goes_on s (suc left) e in
      let less : suc left - 1 ≡ left = omega arith in
      let half = look_halves k (ticket_of (get_or us (middle_of s) no_urb)) s h.1 in
      rw (less, ← (ticket_at us (middle_of s))) (omega (arith, i.0, half.high, ap (λ (y : ℕ). (looked k y s).high) (ticket_at us (middle_of s))), i.1)

  pub look_end : (left : ℕ) (s : Search) → ltb 0 left && unsettled s ≡ false → Halving left s → s ≡ halved k (tickets us)
  look_end zero s e i = i.1
  look_end (suc left) s e i =
      let shut : unsettled s ≡ false = simp (lt-ltb 0 (suc left) (omega arith)) at e in
      sym (looks_settled k (tickets us) (suc left) s (ltb-false s.low s.high shut)) ∙ i.1

-- ## What is found

halved_at : (s : Search) (i : ℕ) → (s.found ≡ true) × (s.low ≡ i) → place_halved s ≡ At i
halved_at s i h = rw (h.0, h.1)

at_halved : (s : Search) (i : ℕ) → place_halved s ≡ At i → (s.found ≡ true) × (s.low ≡ i)
at_halved s i e = at s.found refl
  where
    at : (f : Bool) → s.found ≡ f → (s.found ≡ true) × (s.low ≡ i)
    at true h = let p : At s.low ≡ At i = rw h at e in (h, cc)
    at false h = let p : Nothing ≡ At i = rw h at e in let z : ◌≡◌ {A = ℕ} 0 1 = cc in absurd (omega arith)

pub ticket-inside : TicketInside
ticket-inside t us i e =
    let h = at_halved (halved t (tickets us)) i e in
    let w = halving_inside t (tickets us) h.0 in
    let n = length-map us ticket_of in
    rw (← h.1) (omega (arith, w.0), sym (ticket_at us (halved t (tickets us)).low) ∙ w.1)

pub ticket_placed : TicketPlaced
ticket_placed t us r = at (place_by ticket_of t us) refl
  where
    n : length (tickets us) ≡ length us
    n = length-map us ticket_of

    absent : place_by ticket_of t us ≡ Nothing → (i : ℕ) → i < length (tickets us) → get_or (tickets us) i 0 ≡ t → ⊥
    absent e i h k =
        let none = (find_none ticket_of t us).0 ((place_none ticket_of t us).0 e) in
        none (get_or us i no_urb) (element us i no_urb (omega (arith, n))) (sym (ticket_at us i) ∙ k)

    at : (p : Place) → place_by ticket_of t us ≡ p → ticket_place t us ≡ place_by ticket_of t us
    at (At i) e =
        let f = (place-first ticket_of t us i).0 e in
        halved_at (halved t (tickets us)) i (((halving_locates t (tickets us) r).place i).1 (omega (arith, f.inside, n), ticket_at us i ∙ f.has)) ∙ sym e
    at Nothing e =
        rw ((halving_locates t (tickets us) r).nowhere.1 (absent e)) (sym e)

-- the same, said of the list's own URBs
module _ (t : ℕ) (us : List Urb) (r : Rising (tickets us)) where
  pub ticket_there : (i : ℕ) → (ticket_place t us ≡ At i) ↔ ((i < length us) × (ticket_of (get_or us i no_urb) ≡ t))
  ticket_there i =
      let n = length-map us ticket_of in (
        ticket-inside t us i,
        λ h. halved_at (halved t (tickets us)) i (((halving_locates t (tickets us) r).place i).1 (omega (arith, h.0), ticket_at us i ∙ h.1)),
      )

  pub ticket-nowhere : (ticket_place t us ≡ Nothing) ↔ ((u : Urb) → Memᴰ u us → ticket_of u ≡ t → ⊥)
  ticket-nowhere =
      let p = ticket_placed t us r in (
        λ e. (find_none ticket_of t us).0 ((place_none ticket_of t us).0 (sym p ∙ e)),
        λ h. p ∙ (place_none ticket_of t us).1 ((find_none ticket_of t us).1 h),
      )

-- and settled, whether they rise or not
pub ticket-settled : (t : ℕ) (us : List Urb) → let n = length us in unsettled (after_looks (binary_digits n) t (tickets us) (all_places n)) ≡ false
ticket-settled t us =
    let n : length us - 0 ≡ length us = omega arith in
    rw n at (window_settles t (tickets us) (all_places (length us)))

pub found_inside : (t : ℕ) (us : List Urb) (s : Search) → s ≡ halved t (tickets us) → s.found ≡ true → s.low < length us
found_inside t us s e f =
    let w = halving_inside t (tickets us) (rw e at f) in
    rw e (omega (arith, w.0, length-map us ticket_of))
