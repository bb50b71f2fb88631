-- Which event it is when a byte has just come, in a feed that was given a time (PROTOCOL.md, 4 to 6).
use Rattle.std.specs.Prelude.{ℕ, suc, ◌+◌, Bool, false, not, cond, List, [], ◌∷◌, ◌++◌, eqb, ltb, length}
use Rattle.std.proofs.Math.Option.{Option, none, some}
use Rattle.wire.specs.Codes
use Rattle.wire.specs.Status.{minus}
use Rattle.messages.specs.Messages.{request_of, busid_of, header_of, data_len, body_len, unlink_seqnum}
use Rattle.messages.specs.declared.message.Header.{Header}
use Rattle.messages.specs.declared.message.Transfer.{Transfer}
use Rattle.packets.specs.Judging.{packets_good}
use Rattle.packets.specs.Packets.{in_array}
use Rattle.packets.specs.declared.packet.Packet.{Packet}
use Rattle.lookup.specs.Lookup.{find_in}
use Rattle.std.specs.Prelude.{Option as Maybe, Some, None}
use Rattle.pending.specs.Pending.{ticket_of, seqnum_of, tickets, find_by, found}
use Rattle.pending.specs.declared.urb.Urb.{Urb}
use Rattle.limits.specs.Limits
use Rattle.ground.specs.Tests.{Test, first, decide, pick}
use Rattle.verdicts.specs.Verdicts
use Rattle.verdicts.specs.declared.verdict.Fault.{Fault}
use Rattle.model.specs.State.{Message, partly, headed, Sess, bytes_in, submit_packets, with_link, with_message}
use Rattle.model.specs.Answers.{Event, hungry, list, import, submit, answer, unlink, break}

-- ## A byte comes

-- The first 48 bytes of a message make its header, which is read once; the others are its body's: data first, then descriptors, which
-- are kept.
abbrev pub grown_by : Message → ℕ → Message
grown_by (partly bytes) x =
    let m = bytes ++ (x ∷ []) in
    pick (ltb (length m) Codes.HEADER-LEN) (partly m) (headed (header_of m) 0 [])
grown_by (headed h body ds) x = headed h (suc body) (cond (ltb body (data_len h)) ds (ds ++ (x ∷ [])))

unfoldable pub grow : Sess → ℕ → Sess
grow s x = with_link (with_message (grown_by s.link.message x) s.link) s

-- ## Messages

-- The record of a submit under a ticket, with the time given with the feed that takes its last byte, and its packets: by the bytes of its
-- descriptors.
abbrev pub record_of : (ticket time : ℕ) → Header → (iso : List Packet) → Urb
record_of ticket time h iso = record { ticket = ticket; transfer = h.transfer; setup = h.setup; arrival = time; iso = iso }

abbrev pub urb_of : (ticket time : ℕ) → Header → (descriptors : List ℕ) → Urb
urb_of ticket time h ds = record_of ticket time h (in_array (submit_packets h ds))

-- A break lists the tickets of all that is pending.
abbrev pub breaks : Sess → Fault → Event
breaks s f = break f (tickets s.pend)

-- A submit that has packets is judged by them.
abbrev pub bad_packets : Transfer → List Packet → Bool
bad_packets u ks = cond (eqb (length ks) 0) false (not (packets_good u.direction u.length ks))

abbrev pub submit_tests_of : Header → (descriptors : List ℕ) → Sess → List (Test ℕ)
submit_tests_of h ds s =
    Verdicts.submit_tests h s.link.devid (bad_packets h.transfer (submit_packets h ds)) (length s.pend) s.link.counts.accepted

-- The last byte of a submit is in.
unfoldable pub submitted : ℕ → Sess → Header → (descriptors : List ℕ) → Event
submitted time s h ds =
    decide (first (submit_tests_of h ds s)) (answer h.transfer.seqnum)
    (submit (urb_of (suc s.link.counts.accepted) time h ds))

-- A submit whose header passed waits for its body.
unfoldable pub submitting : ℕ → Sess → Header → ℕ → (descriptors : List ℕ) → Event
submitting time s h body ds = pick (ltb body (body_len h)) hungry (submitted time s h ds)

-- "-104 and removes the URB exactly if unlink_seqnum is pending; otherwise 0"
abbrev pub unlinks : ℕ → Option Urb → Event
unlinks q none = unlink q 0 none
unlinks q (some u) = unlink q (minus Codes.ECONNRESET) (some (ticket_of u))

-- By the devid that is attached and the pending URBs: 16 asks for the submit's own seqnum.
abbrev pub header_tests_of : Header → (devid : ℕ) → List Urb → List (Test Fault)
header_tests_of h devid pend = Verdicts.header_tests h devid (found (find_by seqnum_of h.transfer.seqnum pend))

-- The 48th byte of a message is in.
unfoldable pub whole_header : ℕ → Sess → Header → Event
whole_header time s h =
    decide (first (header_tests_of h s.link.devid s.pend)) (breaks s)
    (pick (eqb h.command Codes.CMD-SUBMIT) (submitting time s h 0 [])
    (unlinks h.transfer.seqnum (find_by seqnum_of (unlink_seqnum h) s.pend)))

unfoldable pub message : ℕ → Sess → Message → Event
message time s (partly bytes) = hungry
message time s (headed h body ds) = pick (eqb body 0) (whole_header time s h) (submitting time s h body ds)

-- ## Requests

-- The 8th byte of a request is in: a list request ends there.
unfoldable pub requested : Sess → List ℕ → Event
requested s m =
    decide (first (Verdicts.request_tests (request_of m))) (breaks s)
    (pick (eqb (request_of m).code Codes.OP-REQ-DEVLIST) list hungry)

-- The device that an import names, if the table has it.
unfoldable pub looked_up : Sess → Maybe ℕ
looked_up s = find_in s.table (busid_of (bytes_in s.link.message))

abbrev pub imports : Maybe ℕ → Event
imports (Some i) = import 0
imports None = import 1

-- An import ends with its busid. (No request gets as far as a header.)
unfoldable pub request : Sess → Message → Event
request s (partly m) =
    pick (ltb (length m) Codes.OP-LEN) hungry
    (pick (eqb (length m) Codes.OP-LEN) (requested s m)
    (pick (ltb (length m) (Codes.OP-LEN + Codes.BUSID-LEN)) hungry
    (imports (looked_up s))))
request s (headed h body ds) = imports (looked_up s)

unfoldable pub judge : ℕ → Sess → Event
judge time s = pick (eqb s.link.phase Limits.WAITING) (request s s.link.message) (message time s s.link.message)
