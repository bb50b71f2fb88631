-- An answer as numbers, a row for each of its cases.
use Rattle.std.specs.Prelude.{ℕ, ◌-◌, cond, Option, Some, None, Result, Ok, Err, List, eqb, ltb, take, drop}
use Rattle.wire.specs.Codes.{HEADER-LEN}
use Rattle.limits.specs.Limits
use Rattle.messages.specs.declared.message.Transfer.{Transfer}
use Rattle.packets.specs.declared.packet.Packet.{Packet}
use Rattle.pending.specs.Pending.{no_transfer}
use Rattle.pending.specs.declared.counts.Numbers.{Numbers}
use Rattle.events.specs.declared.answer.Event.{Event}
use Rattle.events.specs.declared.answer.Event.TheVariants.{Hungry, List as Listed, Import, Submit, Answer, Unlink, Break, Refused}
use Rattle.events.specs.declared.answer.Returned.{Returned}
use Rattle.verdicts.specs.Numbers.{refusal_number}
use Rattle.verdicts.specs.declared.verdict.Refusal.{Refusal}
use Rattle.session.specs.declared.answer.Opened.{Opened}
use Rattle.session.specs.declared.answer.Fed.{Fed}
use Rattle.session.specs.declared.answer.Completed.{Completed}
use Rattle.session.specs.declared.answer.Closed.{Closed}
use Rattle.session.specs.declared.answer.Inquired.{Inquired}
use Rattle.capi.specs.declared.flat.FlatEvent.{FlatEvent}
use Rattle.capi.specs.declared.flat.FlatOpened.{FlatOpened}
use Rattle.capi.specs.declared.flat.FlatFed.{FlatFed}
use Rattle.capi.specs.declared.flat.FlatCompleted.{FlatCompleted}
use Rattle.capi.specs.declared.flat.FlatClosed.{FlatClosed}
use Rattle.capi.specs.declared.flat.FlatInquired.{FlatInquired}
use Rattle.capi.specs.declared.flat.FlatNumbers.{FlatNumbers}
use Rattle.capi.specs.declared.sending.FlatPart.{FlatPart}
use Rattle.capi.specs.declared.about.FlatLimits.{FlatLimits}

-- ## Events

-- The kinds.
abbrev pub HUNGRY : ℕ
HUNGRY = 0

abbrev pub LIST : ℕ
LIST = 1

abbrev pub IMPORT : ℕ
IMPORT = 2

abbrev pub SUBMIT : ℕ
SUBMIT = 3

abbrev pub ANSWER : ℕ
ANSWER = 4

abbrev pub UNLINK : ℕ
UNLINK = 5

abbrev pub BREAK : ℕ
BREAK = 6

abbrev pub REFUSED : ℕ
REFUSED = 7

abbrev pub event_row : (kind number status seqnum at removed ticket : ℕ) → Transfer → (setup : List ℕ) → (arrival : ℕ) → List Packet → FlatEvent
event_row kind number status seqnum at removed ticket transfer setup arrival iso =
    record {
      kind = kind;
      number = number;
      status = status;
      seqnum = seqnum;
      at = at;
      removed = removed;
      ticket = ticket;
      transfer = transfer;
      setup = setup;
      arrival = arrival;
      iso = iso;
    }

-- Tickets count from 1, so that 0 is none.
abbrev pub removed_ticket : Option ℕ → ℕ
removed_ticket None = 0
removed_ticket (Some t) = t

-- What an event doesn't have is 0.     kind    number      status  seqnum  at      removed            ticket  transfer   setup  arrival iso
abbrev pub flat_event : Event → List ℕ → List Packet → FlatEvent
flat_event Hungry setup iso = event_row HUNGRY 0 0 0 0 0 0 no_transfer setup 0 iso
flat_event Listed setup iso = event_row LIST 0 0 0 0 0 0 no_transfer setup 0 iso
flat_event (Import st) setup iso = event_row IMPORT 0 st 0 0 0 0 no_transfer setup 0 iso
flat_event (Submit t a u) setup iso = event_row SUBMIT 0 0 0 0 0 t u setup a iso
flat_event (Answer q st) setup iso = event_row ANSWER 0 st q 0 0 0 no_transfer setup 0 iso
flat_event (Unlink q st r) setup iso = event_row UNLINK 0 st q 0 (removed_ticket r) 0 no_transfer setup 0 iso
flat_event (Break f) setup iso = event_row BREAK f.number 0 0 f.at 0 0 no_transfer setup 0 iso
flat_event (Refused n) setup iso = event_row REFUSED n 0 0 0 0 0 no_transfer setup 0 iso

-- ## What the acts hand back: 0, or a refusal's number

abbrev pub answer_number : {A : Type 0} → Result A Refusal → ℕ
answer_number (Ok x) = 0
answer_number (Err r) = refusal_number r

abbrev pub completion_length : Result Returned Refusal → ℕ
completion_length (Ok r) = r.length
completion_length (Err r) = 0

abbrev pub completion_status : Result Returned Refusal → ℕ
completion_status (Ok r) = r.status
completion_status (Err r) = 0

abbrev pub flat_opened : Opened → FlatOpened
flat_opened r = record { session = r.session; refusal = answer_number r.answer }

abbrev pub flat_fed : Fed → FlatFed
flat_fed r =
    let a = r.answer in
    record {
      session = r.session;
      event = flat_event a.event a.setup a.iso;
      consumed = a.consumed;
      length = a.length;
      dropped = r.dropped;
    }

abbrev pub flat_completed : Completed → FlatCompleted
flat_completed r =
    let a = r.answer in
    record { session = r.session; refusal = answer_number a; status = completion_status a; length = completion_length a }

abbrev pub flat_closed : Closed → FlatClosed
flat_closed r = record { session = r.session; refusal = answer_number r.answer; dropped = r.dropped }

abbrev pub flat_inquired : Inquired → FlatInquired
flat_inquired r = record { refusal = answer_number r.answer; stale = r.stale }

abbrev pub flat_numbers : Numbers → FlatNumbers
flat_numbers n =
    record { accepted = n.accepted; pending = n.pending; returned = n.returned; unlinked = n.unlinked; dropped = n.dropped }

-- ## Sending

abbrev pub OF-HEADER : ℕ
OF-HEADER = 0

abbrev pub OF-PAYLOAD : ℕ
OF-PAYLOAD = 1

abbrev pub part_row : (slice at size : ℕ) → FlatPart
part_row slice at size = record { slice = slice; at = at; length = size }

-- Where a part of so many bytes stands, when `sent` are out of a reply with n bytes of data; an empty one stands at the header's start. The
-- descriptors stand behind the header's 48 bytes.
abbrev pub flat_part : (size n sent : ℕ) → FlatPart
flat_part size n sent =
    cond (eqb size 0) (part_row OF-HEADER 0 0)
    (cond (ltb sent HEADER-LEN) (part_row OF-HEADER sent size)
    (cond (ltb (sent - HEADER-LEN) n) (part_row OF-PAYLOAD (sent - HEADER-LEN) size) (part_row OF-HEADER (sent - n) size)))

-- The bytes that stand there.
abbrev pub bytes_at : FlatPart → (header payload : List ℕ) → List ℕ
bytes_at p header payload = take p.length (drop p.at (cond (eqb p.slice OF-HEADER) header payload))

-- ## About the archive

-- It rises with each change of a function, a struct or an answer.
abbrev pub FACE-VERSION : ℕ
FACE-VERSION = 6

abbrev pub flat_limits : FlatLimits
flat_limits =
    record {
      devices = Limits.MAX-DEVICES;
      interfaces = Limits.MAX-INTERFACES;
      pending = Limits.MAX-PENDING;
      transfer = Limits.MAX-TRANSFER;
      packets = Limits.MAX-PACKETS;
      work = Limits.WORK-LEN;
      reply = Limits.REPLY-LEN;
      header = Limits.HEADER-ROOM;
    }
