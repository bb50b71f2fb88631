-- Demand 3: one claim about every list of calls, by the book before each call (PROTOCOL.md, 5 to 7).
use Rattle.std.specs.Prelude.{ℕ, zero, suc, ◌+◌, ◌*◌, ◌-◌, ◌≤◌, ◌<◌, ◌≡◌, Bool, true, false, cond, ◌⊎◌, eqb, leb, length, take, drop, get_or, None}
use mathlib.Core.List.{List, [], ◌∷◌, ◌++◌, map, Memᴰ}
use Rattle.std.proofs.Math.Option.{Option, none, some}
use Rattle.std.proofs.lemmas.List.Edits.{sets}
use Rattle.wire.specs.Codes
use Rattle.wire.specs.Fields.{field}
use Rattle.wire.specs.Status.{minus}
use Rattle.ground.specs.Writing.{over}
use Rattle.messages.specs.Messages.{request_of, busid_of, header_of, Dirty, FirstDirty, unlink_seqnum_of, ret_submit, ret_unlink}
use Rattle.messages.specs.declared.message.Header.{Header}
use Rattle.messages.specs.declared.message.Transfer.{Transfer}
use Rattle.packets.specs.Judging.{Good}
use Rattle.packets.specs.Packets.{no_packet, packet_in, packets_of}
use Rattle.packets.specs.declared.packet.Packet.{Packet}
use Rattle.results.specs.Results.{errors, Unfit}
use Rattle.descriptors.specs.Descriptors.{descriptors_of, refused_results}
use Rattle.exports.specs.Devices.{no_device, devices_of}
use Rattle.exports.specs.declared.device.Table.{Table}
use Rattle.lookup.specs.Lookup.{FirstDevice, NoDevice}
use Rattle.importing.specs.Imports.{import_reply, import_refusal}
use Rattle.listing.specs.Lists.{list_reply}
use Rattle.transmit.specs.Part.{wire_length}
use Rattle.pending.specs.Pending.{ticket_of, seqnum_of, tickets, without}
use Rattle.ground.specs.Lists.{Rising}
use Rattle.pending.specs.declared.urb.Urb.{Urb}
use Rattle.limits.specs.Limits
use Rattle.ground.specs.Rows.{Row, row, Gives, Clear}
use Rattle.verdicts.specs.Verdicts
use Rattle.verdicts.specs.Verdicts.{Not, ShortRead}
use Rattle.verdicts.specs.declared.verdict.Completing.{Completing}
use Rattle.verdicts.specs.declared.verdict.Fault.{Fault}
use Rattle.model.specs.State.{partly, headed, Sess, closed, numbers_of, End, returned, unlinked, dropped}
use Rattle.model.specs.Answers.{Outcome, refused, done, Returned, Event, hungry, list, import, submit, answer, unlink, break, is_hungry}
use Rattle.model.specs.Judging.{urb_of}
use Rattle.model.specs.Acts.{Buffers, Kind, plain, isochronous, results_in, Completion, feed_of, complete_of, close_of, open_of}
use Rattle.model.specs.Cut.{written}
use Rattle.model.specs.Book.{Call, feed, complete, close, Entry, fed, completed, closing, Book, opened, keep, Item, item, pending, over as past}
use Rattle.model.specs.Book.{pending_of, count, counts_of, Pending, SomePending, NonePending}

-- ## What the acts give

abbrev pub entry_of : Sess → Call → Entry
entry_of s (feed p lent time) = let r = feed_of s lent p time in fed p r.event r.consumed
entry_of s (complete c) = completed c.ticket (complete_of s c).answer
entry_of s close = closing (close_of s).answer

abbrev pub next_of : Sess → Call → Sess
next_of s (feed p lent time) = (feed_of s lent p time).next
next_of s (complete c) = (complete_of s c).next
next_of s close = (close_of s).next

-- ## When the session says no, by the book

-- A message's header: its first 48 bytes, or all of a shorter one.
abbrev pub header : List ℕ → List ℕ
header m = take Codes.HEADER-LEN m

abbrev pub feed_rows_by : Book → Buffers → List (Row ℕ)
feed_rows_by b lent = Verdicts.feed_rows (b.closed ≡ true) (length lent.work) (length lent.reply)

-- The pending item that has a ticket has a record with P.
abbrev pub Holder : List Item → ℕ → (Urb → Type 0) → Type 0
Holder is t P = (u : Urb) × Pending is u × (ticket_of u ≡ t) × P u

-- By number_of_packets a transfer is isochronous.
abbrev pub Isochronous : Transfer → Type 0
Isochronous u = (1 ≤ u.packets) × (u.packets ≤ Limits.MAX-PACKETS)

-- "An actual length above its packet, a sum other than the total, another packet count or a completion of the wrong kind": a plain completion
-- of an isochronous URB, an isochronous one of any other, and results that don't fit the packets.
abbrev pub Misfit : Kind → (total : ℕ) → Urb → Type 0
Misfit plain total u = Isochronous u.transfer
Misfit (isochronous rs) total u = (Isochronous u.transfer → ⊥) ⊎ Unfit u.transfer.packets u.iso rs total

-- What the device side hands over, as the rows ask of it; the rest of what they ask is asked of the book.
abbrev pub handed_over : Completion → Completing
handed_over c =
    record {
      closed = false;
      header = length c.header;
      status = c.status;
      actual = c.actual;
      payload = length c.payload;
      urb = None;
    }

abbrev pub completion_rows_by : Book → Completion → List (Row ℕ)
completion_rows_by b c =
    Verdicts.completion_rows (handed_over c) (b.closed ≡ true) (NonePending b.items ticket_of c.ticket)
    (λ P. Holder b.items c.ticket (λ u. P u.transfer.length u.transfer.direction))
    (Holder b.items c.ticket (Misfit c.kind c.actual))

abbrev pub close_rows_by : Book → List (Row ℕ)
close_rows_by b = row Limits.SESSION-CLOSED (b.closed ≡ true) ∷ []

-- Of a request's 8 bytes.
abbrev pub request_rows_by : List ℕ → List (Row Fault)
request_rows_by h = Verdicts.request_rows (request_of h)

-- Of a message's 48 bytes; the devid is that of the device that this run's import named.
abbrev pub header_rows_by : ℕ → List Item → List ℕ → List (Row Fault)
header_rows_by devid is h = Verdicts.header_rows (header_of h) devid (SomePending is seqnum_of (header_of h).transfer.seqnum) (Dirty h)

-- Where the descriptors of a submit stand, by its header: behind the data, which follows with direction 0 (OUT) only.
abbrev pub descriptors_at : List ℕ → ℕ
descriptors_at h = let u = (header_of h).transfer in Codes.HEADER-LEN + cond (eqb u.direction Codes.DIR-OUT) u.length 0

-- How many there are: as many as packets, of an isochronous submit.
abbrev pub descriptor_count : List ℕ → ℕ
descriptor_count h = let n = (header_of h).transfer.packets in cond (leb n Limits.MAX-PACKETS) n 0

-- The packets of a whole submit: what its descriptors say.
abbrev pub sent_packets : List ℕ → List Packet
sent_packets m = packets_of (descriptor_count (header m)) (drop (descriptors_at (header m)) m)

-- An isochronous submit whose packets aren't good: not each inside the transfer and at or after the end of the last, or, for OUT, not
-- without gaps up to the end.
abbrev pub BadPackets : List ℕ → Type 0
BadPackets m = let u = (header_of (header m)).transfer in Isochronous u × (Good u.direction u.length (sent_packets m) → ⊥)

-- Of a whole submit m, by status.
abbrev pub submit_rows_by : ℕ → List Item → (m : List ℕ) → List (Row ℕ)
submit_rows_by devid is m = Verdicts.submit_rows (header_of (header m)) devid (BadPackets m) (length (pending_of is)) (length is)

-- ## What each event says of the bytes consumed for its message, by the items of the book before the call

-- A request, with a table's devices.
abbrev pub RightRequest : Table → List Item → List ℕ → Event → Type 0
RightRequest t is m hungry =
    (length m < Codes.OP-LEN)
    ⊎ ((Codes.OP-LEN ≤ length m) × (length m < Codes.OP-LEN + Codes.BUSID-LEN)
    × Clear (request_rows_by (header m)) × ((request_of (header m)).code ≡ Codes.OP-REQ-IMPORT))
RightRequest t is m list = (length m ≡ Codes.OP-LEN) × Clear (request_rows_by (header m)) × ((request_of (header m)).code ≡ Codes.OP-REQ-DEVLIST)
RightRequest t is m (import st) =
    (length m ≡ Codes.OP-LEN + Codes.BUSID-LEN)
    × Clear (request_rows_by (header m))
    × ((request_of (header m)).code ≡ Codes.OP-REQ-IMPORT)
    × (((st ≡ 0) × (i : ℕ) × FirstDevice (devices_of t) (busid_of (header m)) i) ⊎ ((st ≡ 1) × NoDevice (devices_of t) (busid_of (header m))))
RightRequest t is m (submit u) = ⊥
RightRequest t is m (answer q st) = ⊥
RightRequest t is m (unlink q st o) = ⊥
RightRequest t is m (break f ts) = (length m ≡ Codes.OP-LEN) × Gives (request_rows_by (header m)) f × (ts ≡ tickets (pending_of is))

-- How long a message is, by its header: "with direction 0 (OUT) the data follows", and "after the data come that many descriptors of 16
-- bytes".
abbrev pub message_len : List ℕ → ℕ
message_len h = descriptors_at h + descriptor_count h * Codes.DESCRIPTOR-LEN

-- The record of an accepted submit: a ticket; every field that it has from its message "as the bytes consumed for it say"; and its arrival
-- "given with the feed that accepts it".
abbrev pub Carries : (ticket time : ℕ) → Header → Urb → Type 0
Carries ticket time h u =
    (u.ticket ≡ ticket)
    × (u.transfer.seqnum ≡ h.transfer.seqnum)
    × (u.transfer.direction ≡ h.transfer.direction)
    × (u.transfer.ep ≡ h.transfer.ep)
    × (u.transfer.flags ≡ h.transfer.flags)
    × (u.transfer.length ≡ h.transfer.length)
    × (u.transfer.start ≡ h.transfer.start)
    × (u.transfer.packets ≡ h.transfer.packets)
    × (u.transfer.interval ≡ h.transfer.interval)
    × (u.setup ≡ h.setup)
    × (u.arrival ≡ time)

-- "The record also keeps each packet's offset and length as they came": of a whole submit m, in whose descriptors they stand; the places
-- behind are blank.
pub record CarriesPackets (m : List ℕ) (u : Urb) : Type 0 where
  pub places : length u.iso ≡ Limits.MAX-PACKETS
  pub offsets : (i : ℕ) → i < descriptor_count (header m)
      → (packet_in u.iso i).offset ≡ field 4 (descriptors_at (header m) + i * Codes.DESCRIPTOR-LEN + Codes.PACKET-OFFSET-AT) m
  pub lengths : (i : ℕ) → i < descriptor_count (header m)
      → (packet_in u.iso i).length ≡ field 4 (descriptors_at (header m) + i * Codes.DESCRIPTOR-LEN + Codes.PACKET-LENGTH-AT) m
  pub blank : (i : ℕ) → descriptor_count (header m) ≤ i → packet_in u.iso i ≡ no_packet

-- What an unlink removes: the pending item that has the seqnum, and none only where there is none.
abbrev pub Removes : List Item → ℕ → ℕ → Option ℕ → Type 0
Removes is q st none = (st ≡ 0) × NonePending is seqnum_of q
Removes is q st (some t) = (st ≡ minus Codes.ECONNRESET) × ((u : Urb) × Pending is u × (seqnum_of u ≡ q) × (ticket_of u ≡ t))

-- A row names the offset of the field that it speaks of; that of 17 names the first byte of an unlink's padding that isn't 0.
abbrev pub Placed : List ℕ → Fault → Type 0
Placed h f = f.number ≡ Limits.DIRTY-PADDING → FirstDirty h f.at

-- A message, with the devid of the device that is attached, in a feed that was given a time.
abbrev pub RightMessage : (devid time : ℕ) → List Item → List ℕ → Event → Type 0
RightMessage devid time is m hungry =
    (length m < Codes.HEADER-LEN)
    ⊎ ((Codes.HEADER-LEN ≤ length m) × Clear (header_rows_by devid is (header m))
    × ((header_of (header m)).command ≡ Codes.CMD-SUBMIT) × (length m < message_len (header m)))
RightMessage devid time is m list = ⊥
RightMessage devid time is m (import st) = ⊥
RightMessage devid time is m (submit u) =
    (length m ≡ message_len (header m))
    × Clear (header_rows_by devid is (header m))
    × ((header_of (header m)).command ≡ Codes.CMD-SUBMIT)
    × Clear (submit_rows_by devid is m)
    × (u ≡ urb_of (suc (length is)) time (header_of (header m)) (drop (descriptors_at (header m)) m))
    × Carries (suc (length is)) time (header_of (header m)) u
    × CarriesPackets m u
RightMessage devid time is m (answer q st) =
    (length m ≡ message_len (header m))
    × Clear (header_rows_by devid is (header m))
    × ((header_of (header m)).command ≡ Codes.CMD-SUBMIT)
    × Gives (submit_rows_by devid is m) st
    × (q ≡ (header_of (header m)).transfer.seqnum)
RightMessage devid time is m (unlink q st o) =
    (length m ≡ Codes.HEADER-LEN)
    × Clear (header_rows_by devid is (header m))
    × ((header_of (header m)).command ≡ Codes.CMD-UNLINK)
    × (q ≡ (header_of (header m)).transfer.seqnum)
    × Removes is (unlink_seqnum_of (header m)) st o
RightMessage devid time is m (break f ts) =
    (length m ≡ Codes.HEADER-LEN)
    × Gives (header_rows_by devid is (header m)) f
    × (ts ≡ tickets (pending_of is))
    × Placed (header m) f

abbrev pub by_phase : Bool → Type 0 → Type 0 → Type 0
by_phase true waiting attached = waiting
by_phase false waiting attached = attached

-- ## What a feed writes

-- The bytes of the reply, by the bytes m of the message: none for hungry, an accepted submit, a break and a refusal. A refused
-- submit is answered by a RET_SUBMIT with actual_length 0, start_frame and number_of_packets copied from it, and its descriptors, each
-- with actual_length 0 and the reply's status; error_count is 0.
abbrev pub Replies : Table → List ℕ → Outcome Event → (bytes : List ℕ) → Type 0
Replies t m (refused n) bytes = bytes ≡ []
Replies t m (done hungry) bytes = bytes ≡ []
Replies t m (done list) bytes = bytes ≡ list_reply t
Replies t m (done (import zero)) bytes =
    (i : ℕ) × FirstDevice (devices_of t) (busid_of (header m)) i × (bytes ≡ import_reply (get_or (devices_of t) i no_device))
Replies t m (done (import (suc st))) bytes = bytes ≡ import_refusal
Replies t m (done (submit u)) bytes = bytes ≡ []
Replies t m (done (answer q st)) bytes =
    let u = (header_of (header m)).transfer in
    bytes
    ≡ ret_submit (record { seqnum = q; status = st; actual = 0; start = u.start; packets = u.packets; errors = 0 })
    ++ descriptors_of (sent_packets m) (refused_results (descriptor_count (header m)) st)
Replies t m (done (unlink q st o)) bytes = bytes ≡ ret_unlink (record { seqnum = q; status = st })
Replies t m (done (break f ts)) bytes = bytes ≡ []

-- "OUT data goes to the work buffer at its own position from 0 as it comes", and "request descriptors go behind the data": of the bytes xs
-- that come behind a part of a message, the body's are those past the 48th of the message, and their place is how many such there were
-- before.
abbrev pub body_in : (part xs : List ℕ) → List ℕ
body_in part xs = drop (Codes.HEADER-LEN - length part) xs

abbrev pub place_of : (part : List ℕ) → ℕ
place_of part = length part - Codes.HEADER-LEN

-- ## What each call's answer is

pub record RightFeed (s : Sess) (b : Book) (piece : List ℕ) (lent : Buffers) (time : ℕ) : Type 0 where
  -- refused exactly by the table, with nothing consumed and nothing changed
  pub refuses : (n : ℕ) → (feed_of s lent piece time).event ≡ refused n
      → Gives (feed_rows_by b lent) n
      × ((feed_of s lent piece time).consumed ≡ 0)
      × ((feed_of s lent piece time).buffers ≡ lent)
      × ((feed_of s lent piece time).next ≡ s)
  -- else the event is right by the bytes consumed for its message
  pub right : (e : Event) → (feed_of s lent piece time).event ≡ done e
      → Clear (feed_rows_by b lent)
      × (let m = b.part ++ take (feed_of s lent piece time).consumed piece in
      by_phase (eqb s.link.phase Limits.WAITING) (RightRequest s.table b.items m e) (RightMessage s.link.devid time b.items m e))
  -- a hungry feed consumed all
  pub all : (feed_of s lent piece time).event ≡ done hungry → (feed_of s lent piece time).consumed ≡ length piece
  -- "A reply starts at 0 of the reply buffer; bytes past it don't change", and the answer gives its length
  pub reply : let r = feed_of s lent piece time in
      (bytes : List ℕ)
      × Replies s.table (b.part ++ take r.consumed piece) r.event bytes
      × (r.buffers.reply ≡ over bytes lent.reply)
      × (written s piece r ≡ length bytes)
  -- the work buffer at exit: what this call consumed of a body; "nothing else is written there"
  pub work : let r = feed_of s lent piece time in
      r.buffers.work ≡ sets lent.work (place_of b.part) (body_in b.part (take r.consumed piece))

-- The status sent: -121 exactly for a short read, that is a completion with status 0 and an actual length below the transfer's length, of a
-- non-isochronous IN URB with the flag URB_SHORT_NOT_OK; of any other completion the status given.
abbrev pub SentAs : Urb → Completion → (status : ℕ) → Type 0
SentAs u c status =
    let short = ShortRead u.transfer c.status c.actual in
    (short → status ≡ minus Codes.EREMOTEIO) × ((short → ⊥) → status ≡ c.status)

-- The reply to the completion of a URB: RET_SUBMIT under the URB's own seqnum, with the status sent and the number of packets whose status
-- isn't 0; and a descriptor for each packet, with its offset and length as recorded and what the completion says of it.
abbrev pub header_for : Urb → Completion → (status : ℕ) → List ℕ
header_for u c status =
    ret_submit
    (record {
      seqnum = seqnum_of u;
      status = status;
      actual = c.actual;
      start = u.transfer.start;
      packets = u.transfer.packets;
      errors = errors (results_in c.kind);
    })

abbrev pub descriptors_for : Urb → Completion → List ℕ
descriptors_for u c = descriptors_of u.iso (results_in c.kind)

pub record RightComplete (s : Sess) (b : Book) (c : Completion) : Type 0 where
  pub refuses : (n : ℕ) → (complete_of s c).answer ≡ refused n
      → Gives (completion_rows_by b c) n × ((complete_of s c).header ≡ c.header) × ((complete_of s c).next ≡ s)
  pub accepts : (r : Returned) → (complete_of s c).answer ≡ done r
      → Clear (completion_rows_by b c)
      × ((u : Urb)
      × Pending b.items u
      × (ticket_of u ≡ c.ticket)
      × (r.wire ≡ wire_length u.transfer.direction c.actual (length (results_in c.kind)))
      × SentAs u c r.status
      × ((complete_of s c).header ≡ over (header_for u c r.status ++ descriptors_for u c) c.header))

pub record RightClose (s : Sess) (b : Book) : Type 0 where
  pub refuses : (n : ℕ) → (close_of s).answer ≡ refused n → Gives (close_rows_by b) n × ((close_of s).next ≡ s)
  pub accepts : (ts : List ℕ) → (close_of s).answer ≡ done ts → Clear (close_rows_by b) × (ts ≡ tickets (pending_of b.items))

abbrev pub Right : Sess → Book → Call → Type 0
Right s b (feed p lent time) = RightFeed s b p lent time
Right s b (complete c) = RightComplete s b c
Right s b close = RightClose s b

-- ## The session and the book

-- The tickets are k, k + 1, ..
abbrev pub Counted : ℕ → List Item → Type 0
Counted k [] = Unit
Counted k (i ∷ is) = (ticket_of i.urb ≡ k) × Counted (suc k) is

-- No two are equal.
abbrev pub Apart : ℕ → List ℕ → Type 0
Apart x [] = Unit
Apart x (y ∷ ys) = Not x y × Apart x ys

abbrev pub Distinct : List ℕ → Type 0
Distinct [] = Unit
Distinct (x ∷ xs) = Apart x xs × Distinct xs

pub record Agrees (s : Sess) (b : Book) : Type 0 where
  pub closes : closed s ≡ b.closed
  pub pending : s.pend ≡ pending_of b.items
  pub numbers : numbers_of s ≡ counts_of b.items
  pub sum : let n = counts_of b.items in n.accepted ≡ n.pending + n.returned + n.unlinked + n.dropped
  pub counted : Counted 1 b.items
  -- so a list of those that are pending has each once, "lowest first"
  pub rising : Rising (tickets (pending_of b.items))
  pub seqnums : Distinct (map seqnum_of (pending_of b.items))
  pub none-closed : b.closed ≡ true → pending_of b.items ≡ []
  pub none_waiting : s.link.phase ≡ Limits.WAITING → b.items ≡ []
  -- the message in progress is what was consumed for it
  pub heading : length b.part < Codes.HEADER-LEN → s.link.message ≡ partly b.part
  pub bodied : Codes.HEADER-LEN ≤ length b.part → s.link.message
      ≡ headed (header_of (header b.part)) (length b.part - Codes.HEADER-LEN) (drop (descriptors_at (header b.part)) b.part)

-- Each item keeps its record, and its fate unless that was pending; new ones come behind.
abbrev pub Kept : Item → Item → Type 0
Kept i j = (i.urb ≡ j.urb) × ((e : End) → i.fate ≡ past e → j.fate ≡ past e)

abbrev pub Grown : List Item → List Item → Type 0
Grown [] js = Unit
Grown (i ∷ is) [] = ⊥
Grown (i ∷ is) (j ∷ js) = Kept i j × Grown is js

-- ## What a call does to the items

-- "that item unlinked", "the given ticket's item returned": it was pending and has its end now. The other pending ones stay as
-- they were, in order; no item is added; one more has that end.
pub record Settled (t : ℕ) (e : End) (is js : List Item) : Type 0 where
  pub was : SomePending is ticket_of t
  pub ends : (u : Urb) → Pending is u → ticket_of u ≡ t → Memᴰ (item u (past e)) js
  pub others : pending_of js ≡ without t (pending_of is)
  pub long : length js ≡ length is
  pub more : count e js ≡ suc (count e is)

-- "the listed items dropped", which are all the pending ones: none is pending then; no item is added; as many more are dropped.
pub record Emptied (is js : List Item) : Type 0 where
  pub ends : (u : Urb) → Pending is u → Memᴰ (item u (past dropped)) js
  pub others : pending_of js ≡ []
  pub long : length js ≡ length is
  pub more : count dropped js ≡ count dropped is + length (pending_of is)

-- The steps of the book, by the answer alone; `Grown` says besides that no item changes but a pending one. An accepted submit adds
-- one item, "as answered, pending", at the end, and nothing else adds one; "all else, refusals too: nothing".
abbrev pub Moves : List Item → Entry → List Item → Type 0
Moves is (fed p (refused n) k) js = js ≡ is
Moves is (fed p (done hungry) k) js = js ≡ is
Moves is (fed p (done list) k) js = js ≡ is
Moves is (fed p (done (import st)) k) js = js ≡ is
Moves is (fed p (done (submit u)) k) js = js ≡ is ++ (item u pending ∷ [])
Moves is (fed p (done (answer q st)) k) js = js ≡ is
Moves is (fed p (done (unlink q st none)) k) js = js ≡ is
Moves is (fed p (done (unlink q st (some t))) k) js = Settled t unlinked is js
Moves is (fed p (done (break f ts)) k) js = Emptied is js
Moves is (completed t (refused n)) js = js ≡ is
Moves is (completed t (done r)) js = Settled t returned is js
Moves is (closing (refused n)) js = js ≡ is
Moves is (closing (done ts)) js = Emptied is js

-- ## What a call does to the message in progress

-- The bytes consumed for it, before the call and in it.
abbrev pub consumed_for : List ℕ → Entry → List ℕ
consumed_for part (fed p o k) = part ++ take k p
consumed_for part (completed t o) = part
consumed_for part (closing o) = part

-- "whatever calls came between": a refusal and a completion leave it as it was before; an event other than hungry ends it, and so does
-- a close.
abbrev pub Progresses : (before : List ℕ) → Entry → (now : List ℕ) → Type 0
Progresses before (fed p (refused n) k) now = now ≡ before
Progresses before (fed p (done e) k) now = (is_hungry e ≡ true → now ≡ before ++ take k p) × (is_hungry e ≡ false → now ≡ [])
Progresses before (completed t o) now = now ≡ before
Progresses before (closing (refused n)) now = now ≡ before
Progresses before (closing (done ts)) now = now ≡ []

-- ## The device

-- Which device is attached, with the phase: the one that an import named, until the end. Its devid is busnum x 65,536 + devnum.
abbrev pub Stays : ℕ → ℕ → Sess → Type 0
Stays phase devid next = (next.link.phase ≡ phase) × (next.link.devid ≡ devid)

-- m: the bytes consumed for the message.
abbrev pub AttachesBy : Table → ℕ → ℕ → List ℕ → Event → Sess → Type 0
AttachesBy t phase devid m (import zero) next =
    (next.link.phase ≡ Limits.ATTACHED)
    × (i : ℕ)
    × FirstDevice (devices_of t) (busid_of (header m)) i
    × (let d = get_or (devices_of t) i no_device in next.link.devid ≡ d.busnum * 65536 + d.devnum)
AttachesBy t phase devid m (import (suc st)) next = Stays Limits.CLOSED devid next
AttachesBy t phase devid m hungry next = Stays phase devid next
AttachesBy t phase devid m list next = Stays Limits.CLOSED devid next
AttachesBy t phase devid m (submit u) next = Stays phase devid next
AttachesBy t phase devid m (answer q st) next = Stays phase devid next
AttachesBy t phase devid m (unlink q st o) next = Stays phase devid next
AttachesBy t phase devid m (break f ts) next = Stays Limits.CLOSED devid next

abbrev pub Attaches : Table → ℕ → ℕ → List ℕ → Entry → Sess → Type 0
Attaches t phase devid m (fed p (refused n) k) next = Stays phase devid next
Attaches t phase devid m (fed p (done e) k) next = AttachesBy t phase devid m e next
Attaches t phase devid m (completed ticket o) next = Stays phase devid next
Attaches t phase devid m (closing (refused n)) next = Stays phase devid next
Attaches t phase devid m (closing (done ts)) next = Stays Limits.CLOSED devid next

-- After every prefix of the calls the session agrees with the book; each answer is right by the book before it; the items only
-- grow, and change by the answer as the rules say, and so does the message in progress; the table stays.
abbrev pub Holds : Sess → Book → List Call → Type 0
Holds s b [] = Agrees s b
Holds s b (c ∷ cs) =
    let a = entry_of s c in
    Agrees s b
    × Right s b c
    × Grown b.items (keep b a).items
    × Moves b.items a (keep b a).items
    × Progresses b.part a (keep b a).part
    × Attaches s.table s.link.phase s.link.devid (consumed_for b.part a) a (next_of s c)
    × ((next_of s c).table ≡ s.table)
    × Holds (next_of s c) (keep b a) cs

abbrev pub EveryRun : Type 0
EveryRun = (t : Table) (calls : List Call) → Holds (open_of t).next (opened (open_of t).good) calls
