-- The plain book of a run, kept from the calls' arguments and answers alone (PROTOCOL.md, 7).
use Rattle.std.specs.Prelude.{ℕ, ◌+◌, ◌≡◌, Bool, true, false, not, cond, eqb, length, take}
use mathlib.Core.List.{List, [], ◌∷◌, ◌++◌, Memᴰ}
use Rattle.std.proofs.Math.Option.{Option, none, some}
use Rattle.pending.specs.Pending.{ticket_of}
use Rattle.pending.specs.declared.counts.Numbers.{Numbers}
use Rattle.pending.specs.declared.urb.Urb.{Urb}
use Rattle.model.specs.State.{End, returned, unlinked, dropped}
use Rattle.model.specs.Answers.{Outcome, refused, done, Returned, Event, hungry, list, import, submit, answer, unlink, break, is_hungry}
use Rattle.model.specs.Acts.{Buffers, Completion}

-- ## Calls and answers

pub data Call : Type 0 where
  feed : (piece : List ℕ) → Buffers → (time : ℕ) → Call
  complete : Completion → Call
  close : Call

-- What the book takes of a call and its answer.
pub data Entry : Type 0 where
  fed : (piece : List ℕ) → Outcome Event → (consumed : ℕ) → Entry
  completed : (ticket : ℕ) → Outcome Returned → Entry
  closing : Outcome (List ℕ) → Entry

-- ## The book

pub data Fate : Type 0 where
  pending : Fate
  over : End → Fate

-- An item: the record that a submit was accepted with, its ticket among it, and its fate.
pub record Item : Type 0 where
  pub urb : Urb
  pub fate : Fate

abbrev pub item : Urb → Fate → Item
item u f = record { urb = u; fate = f }

pub record Book : Type 0 where
  pub items : List Item
  pub closed : Bool
  -- the bytes consumed for the message in progress
  pub part : List ℕ

-- "no items, closed if open refused"
abbrev pub opened : Bool → Book
opened good = record { items = []; closed = not good; part = [] }

abbrev pub with_part : List ℕ → Book → Book
with_part m b = record { items = b.items; closed = b.closed; part = m }

abbrev pub took : Book → List ℕ → Book
took b xs = with_part (b.part ++ xs) b

abbrev pub settled : Bool → End → Item → Item
settled true e i = item i.urb (over e)
settled false e i = i

-- The item with a ticket gets a fate.
abbrev pub mark : ℕ → End → List Item → List Item
mark t e [] = []
mark t e (i ∷ is) = settled (eqb (ticket_of i.urb) t) e i ∷ mark t e is

abbrev pub mark_all : List ℕ → List Item → List Item
mark_all [] is = is
mark_all (t ∷ ts) is = mark_all ts (mark t dropped is)

-- The steps: a new item; an item's end; the end of the listed ones and of the session; the end of the session; nothing.
pub data Effect : Type 0 where
  add : Urb → Effect
  settle : ℕ → End → Effect
  drop_all : List ℕ → Effect
  shut : Effect
  nothing : Effect

abbrev pub apply : Book → Effect → Book
apply b (add u) = record { items = b.items ++ (item u pending ∷ []); closed = b.closed; part = b.part }
apply b (settle t e) = record { items = mark t e b.items; closed = b.closed; part = b.part }
apply b (drop_all ts) = record { items = mark_all ts b.items; closed = true; part = b.part }
apply b shut = record { items = b.items; closed = true; part = b.part }
apply b nothing = b

-- The step of a feed's event.
abbrev pub removal : Option ℕ → Effect
removal none = nothing
removal (some t) = settle t unlinked

abbrev pub effect_of : Event → Effect
effect_of hungry = nothing
effect_of list = shut
effect_of (import st) = cond (eqb st 0) nothing shut
effect_of (submit u) = add u
effect_of (answer q st) = nothing
effect_of (unlink q st t) = removal t
effect_of (break f ts) = drop_all ts

-- An event other than hungry ends the message.
abbrev pub keep_event : Book → Event → Book
keep_event b e = let next = apply b (effect_of e) in cond (is_hungry e) next (with_part [] next)

abbrev pub keep : Book → Entry → Book
keep b (fed piece (refused n) consumed) = b
keep b (fed piece (done e) consumed) = keep_event (took b (take consumed piece)) e
keep b (completed ticket (refused n)) = b
keep b (completed ticket (done r)) = apply b (settle ticket returned)
keep b (closing (refused n)) = b
keep b (closing (done ts)) = with_part [] (apply b (drop_all ts))

-- ## What it says

abbrev pub if_pending : Fate → Urb → List Urb → List Urb
if_pending pending u us = u ∷ us
if_pending (over e) u us = us

-- The records of the pending items, in order.
abbrev pub pending_of : List Item → List Urb
pending_of [] = []
pending_of (i ∷ is) = if_pending i.fate i.urb (pending_of is)

abbrev pub same_end : End → End → ℕ
same_end returned returned = 1
same_end returned unlinked = 0
same_end returned dropped = 0
same_end unlinked returned = 0
same_end unlinked unlinked = 1
same_end unlinked dropped = 0
same_end dropped returned = 0
same_end dropped unlinked = 0
same_end dropped dropped = 1

abbrev pub is_end : End → Fate → ℕ
is_end e pending = 0
is_end e (over d) = same_end d e

-- How many items have a fate.
abbrev pub count : End → List Item → ℕ
count e [] = 0
count e (i ∷ is) = is_end e i.fate + count e is

abbrev pub counts_of : List Item → Numbers
counts_of is =
    record { accepted = length is; pending = length (pending_of is); returned = count returned is; unlinked = count unlinked is; dropped = count dropped is }

-- A record is that of a pending item.
abbrev pub Pending : List Item → Urb → Type 0
Pending is u = Memᴰ (item u pending) is

-- A pending item has a key; none has it.
abbrev pub SomePending : List Item → (Urb → ℕ) → ℕ → Type 0
SomePending is key k = (u : Urb) × Pending is u × (key u ≡ k)

abbrev pub NonePending : List Item → (Urb → ℕ) → ℕ → Type 0
NonePending is key k = (u : Urb) → Pending is u → key u ≡ k → ⊥
