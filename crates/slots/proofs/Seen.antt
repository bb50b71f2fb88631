-- A URB that was sought in a part of a slice, and read there, is what the list of pending URBs sees.
use Prim.Native.Nat.{ℕ, ◌+◌, ◌<◌}
use mathlib.Core.Path.{◌≡◌, refl, sym, ap, ◌∙◌}
use mathlib.Core.Bool.{Bool, true, false}
use mathlib.Core.List.{List}
use native.Mathlib.Omega.{arith}
use borrow.Author.Tests.{lt-ltb, le-ltb}
use lib.Dec.{eqb, ltb}
use lib.ListN.{length, take, drop, get_or, length-take, length-map}
use lib.Seq.{get_or-drop}
use Rattle.ground.proofs.Lists.{read-inside}
use Rattle.halving.specs.Halving.{halved}
use Rattle.halving.proofs.Halving.{halving_inside}
use Rattle.pending.specs.declared.urb.Urb.{Urb}
use Rattle.pending.specs.declared.look.Key.TheVariants.{Seqnum, Ticket}
use Rattle.std.specs.Prelude.{Option, Some, None, position, unwrap_or}
use Rattle.pending.specs.Pending.{ticket_of, seqnum_of, no_urb, blank, tickets, Place, At, Nothing, place_by}
use Rattle.pending.specs.Looks.{place_option, look_at, look_for}
use Rattle.pending.proofs.Finding.{place-first, position_place}
use Rattle.slots.specs.Slots.{place_or, seen_at, BlankedFromZero, SeqnumSeen, TicketSeen, KeySeen}

-- a place as the code says it, as a number
unwrapped : (n : ℕ) (p : Place) → unwrap_or (place_option p) n ≡ place_or n p
unwrapped n Nothing = refl
unwrapped n (At i) = refl

pub sought : (r n q : ℕ) (us part : List Urb) (o : Option ℕ) → part ≡ us → o ≡ position (λ u. eqb (seqnum_of u) q) part → r ≡ unwrap_or o n
    → r ≡ place_or n (place_by seqnum_of q us)
sought r n q us part o p e h = rw (h, e, p, position_place seqnum_of q us) (unwrapped n (place_by seqnum_of q us))

pub blanked_from_zero : BlankedFromZero
blanked_from_zero n us = refl

module _ (from n : ℕ) (us : List Urb) where
  abbrev part : List Urb
  part = take n (drop from us)

  -- what is read at a place of the part
  read : (i : ℕ) → i < length part → get_or us (from + i) blank ≡ get_or part i no_urb
  read i l = sym (get_or-drop from us i blank) ∙ read-inside n (drop from us) i blank no_urb l

  seen : (i : ℕ) → i < length part → seen_at true i (get_or us (from + i) blank) ≡ look_at part (At i)
  seen i l = ap (seen_at true i) (read i l)

  seen-place : (p : Place) → ((i : ℕ) → p ≡ At i → i < length part)
      → seen_at (ltb (place_or n p) n) (place_or n p) (get_or us (from + place_or n p) blank) ≡ look_at part p
  seen-place (At i) inside =
      let l : i < length part = inside i refl in
      let m : i < n = omega (arith, l, length-take n (drop from us)) in
      rw (lt-ltb i n m) (seen i l)
  seen-place Nothing inside = rw (le-ltb n n (omega arith))

pub seqnum_seen : SeqnumSeen
seqnum_seen from n q us =
    let part = take n (drop from us) in
    seen-place from n us (place_by seqnum_of q part) (λ i e. ((place-first seqnum_of q part i).0 e).inside)

pub ticket-seen : TicketSeen
ticket-seen from n t us = at (halved t (tickets (take n (drop from us)))).found refl
  where
    at : (f : Bool) → (halved t (tickets (take n (drop from us)))).found ≡ f
        → let s = halved t (tickets (take n (drop from us))) in
        seen_at s.found s.low (get_or us (from + s.low) blank) ≡ look_for (take n (drop from us)) (Ticket t)
    at true e =
        let w = halving_inside t (tickets (take n (drop from us))) e in
        rw e (seen from n us (halved t (tickets (take n (drop from us)))).low (omega (arith, w.0, length-map (take n (drop from us)) ticket_of)))
    at false e = rw e

pub key_seen : KeySeen
key_seen None other from n us = refl
key_seen (Some (Seqnum q)) other from n us = seqnum_seen from n q us
key_seen (Some (Ticket t)) other from n us = absurd (other t refl)
