-- The cases of the code's answers, as the definitions have them.
use Rattle.std.specs.Prelude.{ℕ, Bool, true, false, Option as Maybe, Some, None, Result, Ok, Err, ⊤, List, [], length, take}
use Rattle.std.proofs.Math.Option.{Option, none, some}
use Rattle.packets.specs.declared.packet.Packet.{Packet}
use Rattle.pending.specs.Pending.{blank, zero_padded}
use Rattle.pending.specs.declared.urb.Urb.{Urb}
use Rattle.pending.specs.declared.list.Tickets.{Tickets}
use Rattle.model.specs.Answers.{Outcome, refused, done, Returned, Event, hungry, list, import, submit, answer, unlink, break}
use Rattle.events.specs.declared.answer.Event.{Event as Case}
use Rattle.events.specs.declared.answer.Event.TheVariants.{Hungry, List as Listed, Import, Submit, Answer as Answered, Unlink, Break, Refused}
use Rattle.events.specs.declared.answer.Returned.{Returned as Handed}
use Rattle.verdicts.specs.Numbers.{by_number}
use Rattle.verdicts.specs.declared.verdict.Refusal.{Refusal}
use Rattle.verdicts.specs.declared.verdict.Refusal.TheVariants.{BadTable}

-- A table that breaks a rule is refused.
abbrev pub open_answer : Bool → Result ⊤ Refusal
open_answer true = Ok tt
open_answer false = Err BadTable

-- The event that each case stands for; the setup bytes, the packets and the dropped tickets stand beside it.
abbrev pub removed_of : Maybe ℕ → Option ℕ
removed_of None = none
removed_of (Some t) = some t

abbrev pub event_of : Case → (setup : List ℕ) → List Packet → Tickets → Outcome Event
event_of Hungry setup iso ts = done hungry
event_of Listed setup iso ts = done list
event_of (Import st) setup iso ts = done (import st)
event_of (Submit t a u) setup iso ts = done (submit (record { ticket = t; transfer = u; setup = setup; arrival = a; iso = iso }))
event_of (Answered q st) setup iso ts = done (answer q st)
event_of (Unlink q st r) setup iso ts = done (unlink q st (removed_of r))
event_of (Break f) setup iso ts = done (break f (take ts.count ts.tickets))
event_of (Refused n) setup iso ts = refused n

-- An answer whose refusal is a number, and one that the acts hand back. A close drops tickets, an inquiry lists them: they stand beside.
abbrev pub completion_by : Result Handed ℕ → Outcome Returned
completion_by (Ok r) = done (record { wire = r.length; status = r.status })
completion_by (Err n) = refused n

abbrev pub completion_of : Result Handed Refusal → Outcome Returned
completion_of a = completion_by (by_number a)

abbrev pub closing_by : Result ⊤ ℕ → Tickets → Outcome (List ℕ)
closing_by (Ok u) ts = done (take ts.count ts.tickets)
closing_by (Err n) ts = refused n

abbrev pub closing_of : Result ⊤ Refusal → Tickets → Outcome (List ℕ)
closing_of a = closing_by (by_number a)

abbrev pub inquiry_of : Result ⊤ Refusal → Tickets → Outcome (List ℕ)
inquiry_of = closing_of

-- What stands beside an answer: an accepted submit's record has it; a blank one for any other event.
abbrev pub urb_beside : Outcome Event → Urb
urb_beside (done (submit u)) = u
urb_beside (done hungry) = blank
urb_beside (done list) = blank
urb_beside (done (import st)) = blank
urb_beside (done (answer q st)) = blank
urb_beside (done (unlink q st t)) = blank
urb_beside (done (break f ts)) = blank
urb_beside (refused n) = blank

abbrev pub tickets_of : List ℕ → Tickets
tickets_of ts = record { tickets = zero_padded ts; count = length ts }

-- The tickets that a feed drops; those that a close drops or an inquiry lists.
abbrev pub dropped_by : Outcome Event → List ℕ
dropped_by (done (break f ts)) = ts
dropped_by (done hungry) = []
dropped_by (done list) = []
dropped_by (done (import st)) = []
dropped_by (done (submit u)) = []
dropped_by (done (answer q st)) = []
dropped_by (done (unlink q st t)) = []
dropped_by (refused n) = []

abbrev pub listed_by : Outcome (List ℕ) → List ℕ
listed_by (done ts) = ts
listed_by (refused n) = []
