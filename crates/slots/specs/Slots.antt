-- What the operations on a lent slice of URBs do, besides what the list of pending URBs has a word for. A part of the slice is the first n
-- from place `from` on: from place 0 and with a list's count it is the list.
use Rattle.std.specs.Prelude.{ℕ, ◌+◌, ◌≡◌, Bool, true, false, List, ◌++◌, ltb, take, drop, get_or, Option, Some, None, option_and_then}
use Rattle.halving.specs.Halving.{halved}
use Rattle.pending.specs.declared.urb.Urb.{Urb}
use Rattle.pending.specs.declared.look.Look.{Look}
use Rattle.pending.specs.declared.look.Key.{Key}
use Rattle.pending.specs.declared.look.Key.TheVariants.{Seqnum, Ticket}
use Rattle.pending.specs.Pending.{seqnum_of, blank, tickets, Place, At, Nothing, place_by}
use Rattle.pending.specs.Looks.{seen, look_for}
use Rattle.pending.specs.Changes.{blanked}

-- The first n places from place `from` on blank.
abbrev pub blanked_from : (from n : ℕ) → List Urb → List Urb
blanked_from from n us = take from us ++ blanked n (drop from us)

-- A place as a number, or the number that says that there is none.
abbrev pub place_or : ℕ → Place → ℕ
place_or n (At i) = i
place_or n Nothing = n

-- How many of n are looked through for a key's seqnum, and the seqnum.
abbrev pub count_wanted : Option Key → ℕ → ℕ
count_wanted None n = 0
count_wanted (Some (Seqnum q)) n = n
count_wanted (Some (Ticket t)) n = 0

abbrev pub seqnum_wanted : Option Key → ℕ
seqnum_wanted None = 0
seqnum_wanted (Some (Seqnum q)) = q
seqnum_wanted (Some (Ticket t)) = 0

-- What is seen of a URB that was found at a place, or wasn't.
abbrev pub seen_at : Bool → ℕ → Urb → Option Look
seen_at true i u = Some (seen i u)
seen_at false i u = None

-- ## What is proved of it: where a place was sought and the URB there read, they are what the list's look gives

-- From place 0 on it is the list's own.
abbrev pub BlankedFromZero : Type 0
BlankedFromZero = (n : ℕ) (us : List Urb) → blanked_from 0 n us ≡ blanked n us

-- By a seqnum, as `seek_seqnum` says its place.
abbrev pub SeqnumSeen : Type 0
SeqnumSeen = (from n q : ℕ) (us : List Urb)
    → let part = take n (drop from us) in
    let r = place_or n (place_by seqnum_of q part) in
    seen_at (ltb r n) r (get_or us (from + r) blank) ≡ look_for part (Seqnum q)

-- By a ticket, as `seek_ticket` says it.
abbrev pub TicketSeen : Type 0
TicketSeen = (from n t : ℕ) (us : List Urb)
    → let part = take n (drop from us) in
    let s = halved t (tickets part) in
    seen_at s.found s.low (get_or us (from + s.low) blank) ≡ look_for part (Ticket t)

-- By no key, or one that is no ticket, with what `count_wanted` and `seqnum_wanted` say of it.
abbrev pub NoTicket : Option Key → Type 0
NoTicket key = (t : ℕ) → key ≡ Some (Ticket t) → ⊥

abbrev pub KeySeen : Type 0
KeySeen = (key : Option Key) → NoTicket key → (from n : ℕ) (us : List Urb)
    → let m = count_wanted key n in
    let r = place_or m (place_by seqnum_of (seqnum_wanted key) (take m (drop from us))) in
    seen_at (ltb r m) r (get_or us (from + r) blank) ≡ option_and_then (look_for (take n (drop from us))) key
