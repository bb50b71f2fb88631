-- The pending URBs of a session (PROTOCOL.md, 2 and 3): as a list, and as the array with a count that holds the list.
use Rattle.std.specs.Prelude.{ℕ, suc, ◌-◌, ◌<◌, ◌≤◌, ◌≡◌, Bool, true, false, cond, List, [], ◌∷◌, ◌++◌, map, eqb, length, take, drop, get_or, replicate}
use Rattle.std.proofs.Math.Option.{Option, none, some}
use Rattle.wire.specs.Codes.{SETUP-LEN}
use Rattle.messages.specs.declared.message.Transfer.{Transfer}
use Rattle.limits.specs.Limits.{MAX-PACKETS, MAX-PENDING}
use Rattle.packets.specs.Packets.{no_packet}
use Rattle.ground.specs.Lists.{Rising}
use Rattle.halving.specs.declared.Search.{Search}
use Rattle.halving.specs.Halving.{halved}
use Rattle.pending.specs.declared.urb.Urb.{Urb}
use Rattle.pending.specs.declared.list.Pending.{Pending}
use Rattle.pending.specs.declared.list.Tickets.{Tickets}

-- ## One URB

abbrev pub ticket_of : Urb → ℕ
ticket_of u = u.ticket

abbrev pub seqnum_of : Urb → ℕ
seqnum_of u = u.transfer.seqnum

abbrev pub no_transfer : Transfer
no_transfer = record { seqnum = 0; direction = 0; ep = 0; flags = 0; length = 0; start = 0; packets = 0; interval = 0 }

-- What is read past the end of a list.
abbrev pub no_urb : Urb
no_urb = record { ticket = 0; transfer = no_transfer; setup = []; arrival = 0; iso = [] }

-- What stands in a free place of the array.
abbrev pub blank : Urb
blank = record { ticket = 0; transfer = no_transfer; setup = replicate SETUP-LEN 0; arrival = 0; iso = replicate MAX-PACKETS no_packet }

-- ## A list of URBs

abbrev pub tickets : List Urb → List ℕ
tickets us = map ticket_of us

-- The first that has a key, if one has.
abbrev pub find_by : (Urb → ℕ) → ℕ → List Urb → Option Urb
find_by key k [] = none
find_by key k (u ∷ us) = cond (eqb (key u) k) (some u) (find_by key k us)

abbrev pub found : Option Urb → Bool
found none = false
found (some u) = true

-- Where a URB stands in a list, if it does.
pub data Place : Type 0 where
  At : ℕ → Place
  Nothing : Place

-- The place of the first that has a key, where the URBs stand from place i on.
abbrev pub place_from : ℕ → (Urb → ℕ) → ℕ → List Urb → Place
place_from i key k [] = Nothing
place_from i key k (u ∷ us) = cond (eqb (key u) k) (At i) (place_from (suc i) key k us)

abbrev pub place_by : (Urb → ℕ) → ℕ → List Urb → Place
place_by key k us = place_from 0 key k us

-- The place of a ticket, found by halving: the list is in ticket order.
abbrev pub place_halved : Search → Place
place_halved s = cond s.found (At s.low) Nothing

abbrev pub ticket_place : ℕ → List Urb → Place
ticket_place t us = place_halved (halved t (tickets us))

-- The one at a place.
abbrev pub urb_at : Place → List Urb → Option Urb
urb_at (At i) us = some (get_or us i no_urb)
urb_at Nothing us = none

-- All but the one at a place.
abbrev pub without_at : Place → List Urb → List Urb
without_at (At i) us = take i us ++ drop (suc i) us
without_at Nothing us = us

-- All but those with a ticket.
abbrev pub without : ℕ → List Urb → List Urb
without t [] = []
without t (u ∷ us) = cond (eqb (ticket_of u) t) (without t us) (u ∷ without t us)

-- ## The array with its count

-- A count past the array takes in the whole array.
abbrev pub list_of : Pending → List Urb
list_of p = take p.count p.urbs

abbrev pub empty_pending : Pending
empty_pending = record { urbs = replicate MAX-PENDING blank; count = 0 }

-- Tickets, and zeros behind them.
abbrev pub zero_padded : List ℕ → List ℕ
zero_padded ts = ts ++ replicate (MAX-PENDING - length ts) 0

abbrev pub listing : List Urb → Tickets
listing us = record { tickets = zero_padded (tickets us); count = length us }

-- ## What the theorems speak of

-- The array has all its places, as each array of the code has.
abbrev pub Whole : Pending → Type 0
Whole p = length p.urbs ≡ MAX-PENDING

-- The list fits, and each place behind it is blank.
pub record Sound (p : Pending) : Type 0 where
  pub fits : p.count ≤ MAX-PENDING
  pub free : drop p.count p.urbs ≡ replicate (MAX-PENDING - p.count) blank

-- Place i is the first whose URB has the key.
pub record FirstAt (key : Urb → ℕ) (k : ℕ) (us : List Urb) (i : ℕ) : Type 0 where
  pub inside : i < length us
  pub has : key (get_or us i no_urb) ≡ k
  pub before : (j : ℕ) → j < i → key (get_or us j no_urb) ≡ k → ⊥

-- Where tickets rise, as after every list of calls, halving finds the first that has the ticket: its place, or none where none has it.
abbrev pub TicketPlaced : Type 0
TicketPlaced = (t : ℕ) (us : List Urb) → Rising (tickets us) → ticket_place t us ≡ place_by ticket_of t us

-- Whether they rise or not, what is found has the ticket.
abbrev pub TicketInside : Type 0
TicketInside = (t : ℕ) (us : List Urb) (i : ℕ) → ticket_place t us ≡ At i → (i < length us) × (ticket_of (get_or us i no_urb) ≡ t)
