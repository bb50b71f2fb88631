-- The law of the age, and the loop over a list.
use Rattle.std.proofs.Common.{◌≡◌, ℕ, ◌+◌, ◌<◌, ◌≤◌, Bool, true, false, cond, List, [], ◌∷◌, ◌++◌, length, get_or, take, set, refl, ◌∙◌, append-nil, arith, length-append}
use mathlib.Core.List.{map-append}
use lib.ListN.{length-map}
use Rattle.std.proofs.lemmas.List.Elements.{filter_more}
use Rattle.ground.specs.Writing.{over}
use Rattle.pending.specs.declared.urb.Urb.{Urb}
use Rattle.pending.specs.Pending.{ticket_of, no_urb, tickets}
use Rattle.pending.proofs.Walks.{over_more}
use Rattle.ages.specs.Ages.{age_at, is_stale, stale_in, Shows, AgeLaw}

-- ## The age

age_shows : (time arrival : ℕ) → Shows arrival (age_at time arrival) time
unfolding age_at
age_shows time arrival = (omega arith, omega arith)

pub age_law : AgeLaw
unfolding age_at
age_law time arrival d = ((λ e. rw e (age_shows time arrival)), λ h. omega (arith, h.0, h.1))

-- ## The loop

module _ (time limit : ℕ) (us : List Urb) (os : List ℕ) where
  abbrev stale : ℕ → List Urb
  stale k = stale_in time limit (take k us)

  -- of the first k the stale ones stand in front, n of them
  pub record Put (k n : ℕ) (out : List ℕ) : Type 0 where
    pub few : n ≤ k
    pub count : n ≡ length (stale k)
    pub places : out ≡ over (tickets (stale k)) os

  module _ (k n : ℕ) (out : List ℕ) (l : k < length us) (h : Put k n out) where
    abbrev u : Urb
    u = get_or us k no_urb

    more : (c : Bool) → is_stale time limit u ≡ c → stale (k + 1) ≡ stale k ++ cond c (u ∷ []) []
    more c e = rw (filter_more (is_stale time limit) us k no_urb l, e) refl

    pub put_one : k < length os → is_stale time limit u ≡ true → Put (k + 1) (n + 1) (set out n (ticket_of u))
    put_one f e =
        let m = more true e in
        let size : length (tickets (stale k)) ≡ n = rw (length-map (stale k) ticket_of, h.count) in
        record {
          few = omega (arith, h.few);
          count = rw (m, length-append, h.count);
          places = rw (m, map-append ticket_of (stale k) (u ∷ []), h.places)
              (over_more (tickets (stale k)) os n (ticket_of u) size (omega (arith, h.few)));
        }

    pub put_none : is_stale time limit u ≡ false → Put (k + 1) n out
    put_none e =
        let m = more false e ∙ append-nil (stale k) in
        record { few = omega (arith, h.few); count = rw m h.count; places = rw m h.places }
