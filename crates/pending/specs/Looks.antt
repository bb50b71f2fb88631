-- What is looked up in the list of pending URBs.
use Rattle.std.specs.Prelude.{ℕ, List, get_or, Option, Some, None}
use Rattle.pending.specs.declared.urb.Urb.{Urb}
use Rattle.pending.specs.declared.look.Look.{Look}
use Rattle.pending.specs.declared.look.Key.{Key}
use Rattle.pending.specs.declared.look.Key.TheVariants.{Seqnum, Ticket}
use Rattle.pending.specs.Pending.{ticket_of, seqnum_of, no_urb, Place, At, Nothing, place_by, ticket_place}

-- A place as the code says it.
abbrev pub place_option : Place → Option ℕ
place_option Nothing = None
place_option (At i) = Some i

-- What is seen of the URB at a place.
abbrev pub seen : ℕ → Urb → Look
seen i u = record { place = i; ticket = ticket_of u; transfer = u.transfer; iso = u.iso }

abbrev pub look_at : List Urb → Place → Option Look
look_at us Nothing = None
look_at us (At i) = Some (seen i (get_or us i no_urb))

-- The first that has a key.
abbrev pub look_by : (Urb → ℕ) → ℕ → List Urb → Option Look
look_by key k us = look_at us (place_by key k us)

-- A seqnum is looked for from the front, a ticket by halving.
abbrev pub place_for : List Urb → Key → Place
place_for us (Seqnum q) = place_by seqnum_of q us
place_for us (Ticket t) = ticket_place t us

abbrev pub look_for : List Urb → Key → Option Look
look_for us key = look_at us (place_for us key)

-- Nothing is found where nothing is looked up.
abbrev pub look_asked : List Urb → Option Key → Option Look
look_asked us None = None
look_asked us (Some key) = look_for us key
