-- The acts of a session: what each answers, writes and leaves (PROTOCOL.md, 3 and 4).
use Rattle.std.specs.Prelude.{ℕ, Bool, true, false, ◌&&◌, List, [], ◌∷◌, ◌++◌, eqb, ltb, length, set, get_or}
use Rattle.std.proofs.Math.Option.{Option, none, some}
use Rattle.ground.specs.Writing.{over}
use Rattle.messages.specs.Messages.{ret_unlink, unlink_seqnum, iso_count}
use Rattle.messages.specs.declared.message.Transfer.{Transfer}
use Rattle.messages.specs.declared.reply.RetSubmit.{RetSubmit}
use Rattle.packets.specs.declared.packet.Packet.{Packet}
use Rattle.results.specs.Results.{results_fit, errors}
use Rattle.results.specs.declared.PacketResult.{PacketResult}
use Rattle.descriptors.specs.Descriptors.{refused_results}
use Rattle.replies.specs.Replies.{submit_reply}
use Rattle.exports.specs.Devices.{no_device, devices_of}
use Rattle.exports.specs.declared.device.Device.{Device}
use Rattle.exports.specs.declared.device.Table.{Table}
use Rattle.tables.specs.Tables.{good_table}
use Rattle.lookup.specs.Lookup.{devid_of}
use Rattle.std.specs.Prelude.{Option as Maybe, Some, None}
use Rattle.importing.specs.Imports.{import_reply, import_refusal}
use Rattle.listing.specs.Lists.{list_reply}
use Rattle.transmit.specs.Part.{wire_length}
use Rattle.pending.specs.Pending.{no_transfer, seqnum_of, tickets, Place, place_by, ticket_place, urb_at, without_at}
use Rattle.pending.specs.declared.counts.Counts.{Counts}
use Rattle.pending.specs.declared.urb.Urb.{Urb}
use Rattle.ages.specs.Ages.{stale_in}
use Rattle.limits.specs.Limits
use Rattle.ground.specs.Tests.{Test, first, decide, pick}
use Rattle.verdicts.specs.Verdicts
use Rattle.verdicts.specs.declared.verdict.Completing.{Completing}
use Rattle.verdicts.specs.declared.verdict.Named.{Named}
use Rattle.model.specs.Machine.{Fed, feed}
use Rattle.model.specs.State.{Message, partly, headed, Sess, closed, with_link, with_pend, in_phase, with_message, with_counts, attached_as, no_message}
use Rattle.model.specs.State.{header_in, packets_in, End, returned, unlinked, dropped, ended, one_accepted}
use Rattle.model.specs.Answers.{Outcome, refused, done, Returned, Event, hungry, list, import, submit, answer, unlink, break, is_hungry}
use Rattle.model.specs.Judging.{grow, judge, looked_up}

-- ## What becomes of the session

-- A URB more is pending.
abbrev pub accepts : Urb → Sess → Sess
accepts u s = with_pend (s.pend ++ (u ∷ [])) (with_link (with_counts (one_accepted s.link.counts) s.link) s)

-- The URB at a place is no longer pending.
abbrev pub settles : Place → End → Sess → Sess
settles p e s = with_pend (without_at p s.pend) (with_link (with_counts (ended e 1 s.link.counts) s.link) s)

-- The session ends; with all that is pending dropped.
abbrev pub shuts : Sess → Sess
shuts s = with_link (in_phase Limits.CLOSED s.link) s

abbrev pub drops : Sess → Sess
drops s = shuts (with_pend [] (with_link (with_counts (ended dropped (length s.pend) s.link.counts) s.link) s))

-- No message is in progress.
abbrev pub between : Sess → Sess
between s = with_link (with_message no_message s.link) s

abbrev pub device_of : Table → Maybe ℕ → Device
device_of t (Some i) = get_or (devices_of t) i no_device
device_of t None = no_device

abbrev pub attaches : Device → Sess → Sess
attaches d s = with_link (attached_as (devid_of d) s.link) s

-- An unlink takes out the URB that has its unlink_seqnum.
abbrev pub after_unlink : Sess → Option ℕ → Sess
after_unlink s none = s
after_unlink s (some t) = settles (place_by seqnum_of (unlink_seqnum (header_in s.link.message)) s.pend) unlinked s

-- The session after a feed's event.
abbrev pub after : Sess → Event → Sess
after s hungry = s
after s list = between (shuts s)
after s (import st) = pick (eqb st 0) (between (attaches (device_of s.table (looked_up s)) s)) (between (shuts s))
after s (submit u) = between (accepts u s)
after s (answer q st) = between s
after s (unlink q st t) = between (after_unlink s t)
after s (break f ts) = between (drops s)

-- ## The bytes that an event of a feed writes

abbrev pub import_bytes : Table → Maybe ℕ → List ℕ
import_bytes t (Some i) = import_reply (get_or (devices_of t) i no_device)
import_bytes t None = import_refusal

-- The header of the reply to a URB, with a status, an actual length and an error count.
abbrev pub ret_for : Transfer → (status actual errors : ℕ) → RetSubmit
ret_for u status actual errors =
    record { seqnum = u.seqnum; status = status; actual = actual; start = u.start; packets = u.packets; errors = errors }

-- The reply to a submit that is refused with a status: its descriptors are sent back.
abbrev pub refusal_for : Transfer → List Packet → (status : ℕ) → List ℕ
refusal_for u ks status = submit_reply (ret_for u status 0 0) ks (refused_results (length ks) status)

-- A refused submit's reply is to the submit whose header is in.
unfoldable pub reply_to : Sess → Event → List ℕ
reply_to s hungry = []
reply_to s list = list_reply s.table
reply_to s (import st) = import_bytes s.table (looked_up s)
reply_to s (submit u) = []
reply_to s (answer q st) = refusal_for (header_in s.link.message).transfer (packets_in s.link.message) st
reply_to s (unlink q st t) = ret_unlink (record { seqnum = q; status = st })
reply_to s (break f ts) = []

-- ## Feeding

-- The lent buffers.
pub record Buffers : Type 0 where
  pub work : List ℕ
  pub reply : List ℕ

-- "OUT data goes to the work buffer at its own position from 0 as it comes", and "request descriptors go behind the data"
abbrev pub data_put : Message → ℕ → List ℕ → List ℕ
data_put (partly bytes) x work = work
data_put (headed h body ds) x work = set work body x

unfoldable pub put : Sess → ℕ → Buffers → Buffers
put s x b = record { work = data_put s.link.message x b.work; reply = b.reply }

-- "A reply starts at 0 of the reply buffer; bytes past it don't change."
unfoldable pub write_reply : Sess → Event → Buffers → Buffers
write_reply s e b = record { work = b.work; reply = over (reply_to s e) b.reply }

abbrev pub feed_bytes : Sess → Buffers → List ℕ → (time : ℕ) → Fed Sess Event Buffers
feed_bytes s b piece time = feed grow put (judge time) after write_reply hungry is_hungry s b piece

abbrev pub feed_tests_of : Sess → Buffers → List (Test ℕ)
feed_tests_of s b = Verdicts.feed_tests (closed s) (length b.work) (length b.reply)

abbrev pub refused_feed : Sess → Buffers → ℕ → Fed Sess (Outcome Event) Buffers
refused_feed s b n = record { event = refused n; consumed = 0; buffers = b; next = s }

abbrev pub done_feed : Fed Sess Event Buffers → Fed Sess (Outcome Event) Buffers
done_feed r = record { event = done r.event; consumed = r.consumed; buffers = r.buffers; next = r.next }

-- A feed, given a time: on a closed session first, then with buffers that are too small, else byte by byte.
unfoldable pub feed_of : Sess → Buffers → List ℕ → (time : ℕ) → Fed Sess (Outcome Event) Buffers
feed_of s b piece time = decide (first (feed_tests_of s b)) (refused_feed s b) (done_feed (feed_bytes s b piece time))

-- ## Completing

-- There are two acts: the completion of a URB that isn't isochronous, and of one that is, with a result for each of its packets.
pub data Kind : Type 0 where
  plain : Kind
  isochronous : List PacketResult → Kind

abbrev pub results_in : Kind → List PacketResult
results_in plain = []
results_in (isochronous rs) = rs

-- What the device side hands over with a ticket; the payload is its data.
pub record Completion : Type 0 where
  pub ticket : ℕ
  pub status : ℕ
  pub actual : ℕ
  pub kind : Kind
  pub payload : List ℕ
  pub header : List ℕ

abbrev pub the_transfer : Option Urb → Transfer
the_transfer none = no_transfer
the_transfer (some u) = u.transfer

abbrev pub the_packets : Option Urb → List Packet
the_packets none = []
the_packets (some u) = u.iso

-- The act is the one for the URB, by how many packets it has, and the results fit them.
abbrev pub kind_fits : Kind → (count : ℕ) → List Packet → (total : ℕ) → Bool
kind_fits plain count ks total = eqb count 0
kind_fits (isochronous rs) count ks total = ltb 0 count && results_fit count ks rs total

-- What is asked of the URB that is pending under its ticket.
abbrev pub named_by : Completion → Option Urb → Maybe Named
named_by c none = None
named_by c (some u) =
    Some
    (record {
      length = u.transfer.length;
      direction = u.transfer.direction;
      fits = kind_fits c.kind (iso_count u.transfer.packets) u.iso c.actual;
    })

-- What a completion is judged by; o is what is pending under its ticket.
abbrev pub completing : Bool → Option Urb → Completion → Completing
completing closed o c =
    record {
      closed = closed;
      header = length c.header;
      status = c.status;
      actual = c.actual;
      payload = length c.payload;
      urb = named_by c o;
    }

-- The URB that a completion names: its ticket's, found by halving.
abbrev pub named_place : Sess → Completion → Place
named_place s c = ticket_place c.ticket s.pend

abbrev pub named : Sess → Completion → Option Urb
named s c = urb_at (named_place s c) s.pend

abbrev pub completion_tests_of : Sess → Completion → List (Test ℕ)
completion_tests_of s c = Verdicts.completion_tests (completing (closed s) (named s c) c)

-- What is returned, the header buffer at exit, the next session.
pub record Complete : Type 0 where
  pub answer : Outcome Returned
  pub header : List ℕ
  pub next : Sess

abbrev pub refused_completion : Sess → Completion → ℕ → Complete
refused_completion s c n = record { answer = refused n; header = c.header; next = s }

-- An accepted completion writes the 48 header bytes and the descriptors behind them, no others, and answers the wire length; header and
-- answer have the status sent.
unfoldable pub complete_of : Sess → Completion → Complete
complete_of s c =
    let u = the_transfer (named s c) in
    let rs = results_in c.kind in
    let sent = Verdicts.status_sent u c.status c.actual in
    decide (first (completion_tests_of s c)) (refused_completion s c)
    (record {
      answer = done (record { wire = wire_length u.direction c.actual (iso_count u.packets); status = sent });
      header = over (submit_reply (ret_for u sent c.actual (errors rs)) (the_packets (named s c)) rs) c.header;
      next = settles (named_place s c) returned s;
    })

-- ## Inquiring

-- The tickets of the pending URBs whose age at a time is at least a limit, lowest first. It hands back no session: nothing changes.
unfoldable pub stale_of : Sess → (time limit : ℕ) → Outcome (List ℕ)
stale_of s time limit = pick (closed s) (refused Limits.SESSION-CLOSED) (done (tickets (stale_in time limit s.pend)))

-- ## Closing and opening

-- The tickets of all that was pending.
pub record Close : Type 0 where
  pub answer : Outcome (List ℕ)
  pub next : Sess

unfoldable pub close_of : Sess → Close
close_of s =
    pick (closed s)
    (record { answer = refused Limits.SESSION-CLOSED; next = s })
    (record { answer = done (tickets s.pend); next = between (drops s) })

pub record Open : Type 0 where
  pub good : Bool
  pub next : Sess

abbrev pub no_table : Table → Table
no_table t = record { devices = t.devices; count = 0 }

abbrev pub fresh : Table → ℕ → Sess
fresh t phase =
    let none : Counts = record { accepted = 0; returned = 0; unlinked = 0; dropped = 0 } in
    record { table = t; link = record { phase = phase; devid = 0; message = no_message; counts = none }; pend = [] }

-- "2: a closed session, empty table, all counts 0"
unfoldable pub open_of : Table → Open
open_of t =
    pick (good_table t) (record { good = true; next = fresh t Limits.WAITING }) (record { good = false; next = fresh (no_table t) Limits.CLOSED })
