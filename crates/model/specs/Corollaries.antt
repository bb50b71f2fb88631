-- What follows from the claim about every list of calls, in the words of the mission: a late ticket is refused, a submit is
-- accepted exactly when the rules allow it, a feed consumes one message; and what opening gives, from which each run starts.
use Rattle.std.specs.Prelude.{ℕ, suc, ◌+◌, ◌-◌, ◌*◌, ◌≤◌, ◌<◌, ◌≡◌, true, false, cond, ◌↔◌, ◌⊎◌, eqb, length, take, drop, get_or}
use mathlib.Core.List.{List, [], ◌∷◌, ◌++◌, Memᴰ}
use Rattle.std.proofs.Math.Option.{Option, some}
use Rattle.wire.specs.Codes
use Rattle.messages.specs.Messages.{request_of, header_of}
use Rattle.exports.specs.Devices.{no_device, devices_of}
use Rattle.exports.specs.declared.device.Table.{Table}
use Rattle.tables.specs.Tables.{Rules}
use Rattle.lookup.specs.Lookup.{FirstDevice, devid_of}
use Rattle.transmit.specs.Part.{part_of, Sends}
use Rattle.halving.specs.Halving.{all_places, unsettled, after_looks, binary_digits}
use Rattle.pending.specs.Pending.{ticket_of, tickets, no_urb, At, Nothing, ticket_place}
use Rattle.pending.specs.declared.urb.Urb.{Urb}
use Rattle.limits.specs.Limits
use Rattle.ground.specs.Rows.{Row, Gives, Clear}
use Rattle.verdicts.specs.Verdicts.{Not}
use Rattle.verdicts.specs.declared.verdict.Fault.{Fault}
use Rattle.model.specs.State.{Sess, End}
use Rattle.model.specs.Answers.{Outcome, refused, done, Returned, Event, hungry, list, import, submit, answer, unlink, break}
use Rattle.model.specs.Judging.{urb_of}
use Rattle.model.specs.Acts.{between, Buffers, results_in, Completion, feed_of, refused_feed, complete_of, close_of, Open, open_of}
use Rattle.model.specs.Book.{Call, feed, Book, opened, Item, item, over, keep, pending_of, Pending, NonePending}
use Rattle.model.specs.Claims.{entry_of, next_of, header, message_len, by_phase, feed_rows_by, completion_rows_by, close_rows_by, header_rows_by, submit_rows_by}
use Rattle.model.specs.Claims.{descriptors_at, SentAs, header_for, descriptors_for}

-- ## The run of the definitions, and the book kept from it

abbrev pub session_after : Sess → List Call → Sess
session_after s [] = s
session_after s (c ∷ cs) = session_after (next_of s c) cs

abbrev pub book_after : Sess → Book → List Call → Book
book_after s b [] = b
book_after s b (c ∷ cs) = book_after (next_of s c) (keep b (entry_of s c)) cs

-- From a fresh session over a table.
abbrev pub session_from : Table → List Call → Sess
session_from t cs = session_after (open_of t).next cs

abbrev pub book_from : Table → List Call → Book
book_from t cs = book_after (open_of t).next (opened (open_of t).good) cs

-- ## Opening

-- A table is refused, with 2, exactly when it breaks a rule. A session that is not refused waits, over that table; a refused one
-- is closed, over a table of no devices. That either has nothing pending, no message in progress and all counts 0 is in the
-- claim about every list of calls, with the empty list.
pub record OpenGives (t : Table) (o : Open) : Type 0 where
  pub good : (o.good ≡ true) ↔ Rules t
  pub waits : o.good ≡ true → (o.next.table ≡ t) × (o.next.link.phase ≡ Limits.WAITING)
  pub refused : o.good ≡ false → (devices_of o.next.table ≡ []) × (o.next.link.phase ≡ Limits.CLOSED)

abbrev pub OpenIff : Type 0
OpenIff = (t : Table) → OpenGives t (open_of t)

-- ## Refusals

-- An act is refused with a number exactly when its table gives that number, and goes on exactly when no row holds.
abbrev pub ByTable : {A : Type 0} → List (Row ℕ) → Outcome A → Type 0
ByTable rs o = ((n : ℕ) → (o ≡ refused n) ↔ Gives rs n) × (((n : ℕ) → o ≡ refused n → ⊥) ↔ Clear rs)

abbrev pub RefusedIff : Type 0
RefusedIff = (t : Table) (cs : List Call)
    → let s = session_from t cs in
    let b = book_from t cs in
    ((p : List ℕ) (lent : Buffers) (time : ℕ) → ByTable (feed_rows_by b lent) (feed_of s lent p time).event)
    × ((c : Completion) → ByTable (completion_rows_by b c) (complete_of s c).answer)
    × ByTable (close_rows_by b) (close_of s).answer

-- ## Finding a ticket

-- With as many looks as the pending count has binary digits, each at one pending URB, the search for a ticket is settled. It ends at a
-- place exactly if the URB there has the ticket, and nowhere exactly if no pending item has it.
pub record TicketSought (s : Sess) (b : Book) (k : ℕ) : Type 0 where
  pub settled : let n = length s.pend in unsettled (after_looks (binary_digits n) k (tickets s.pend) (all_places n)) ≡ false
  pub place : (i : ℕ) → (ticket_place k s.pend ≡ At i) ↔ ((i < length s.pend) × (ticket_of (get_or s.pend i no_urb) ≡ k))
  pub nowhere : (ticket_place k s.pend ≡ Nothing) ↔ NonePending b.items ticket_of k

-- After every list of calls, and for every ticket.
abbrev pub TicketFound : Type 0
TicketFound = (t : Table) (cs : List Call) (k : ℕ) → TicketSought (session_from t cs) (book_from t cs) k

-- ## A late ticket

-- A completion is refused by the table, with 3, 1 or 4, and changes nothing.
pub record RefusedLate (s : Sess) (b : Book) (c : Completion) : Type 0 where
  pub number : ℕ
  pub answer : (complete_of s c).answer ≡ refused number
  pub by_table : Gives (completion_rows_by b c) number
  pub which : (number ≡ Limits.SESSION-CLOSED) ⊎ ((number ≡ Limits.SHORT-BUFFER) ⊎ (number ≡ Limits.NOT-PENDING))
  pub header : (complete_of s c).header ≡ c.header
  pub next : (complete_of s c).next ≡ s

-- After every list of calls: a completion whose ticket no pending item has is refused, whatever seqnums are pending now.
abbrev pub LateTicket : Type 0
LateTicket = (t : Table) (cs : List Call) (c : Completion)
    → NonePending (book_from t cs).items ticket_of c.ticket → RefusedLate (session_from t cs) (book_from t cs) c

-- An item that was returned, unlinked or dropped has a ticket.
abbrev pub Ended : List Item → ℕ → Type 0
Ended is k = (u : Urb) × (e : End) × Memᴰ (item u (over e)) is × (ticket_of u ≡ k)

-- Such a ticket is no pending item's, and stays such a ticket whatever calls come later: so it is always a late one.
abbrev pub EndedTicket : Type 0
EndedTicket = (t : Table) (cs : List Call) (k : ℕ)
    → Ended (book_from t cs).items k
    → NonePending (book_from t cs).items ticket_of k × ((later : List Call) → Ended (book_from t (cs ++ later)).items k)

-- A request that an unlink cancelled finishes late: its completion is refused, also where its seqnum is in use again.
abbrev pub CancelledTicket : Type 0
CancelledTicket = (t : Table) (cs later : List Call) (p : List ℕ) (lent : Buffers) (time q st : ℕ) (c : Completion)
    → (feed_of (session_from t cs) lent p time).event ≡ done (unlink q st (some c.ticket))
    → let calls = cs ++ (feed p lent time ∷ later) in
    RefusedLate (session_from t calls) (book_from t calls) c

-- ## Sending

-- After every list of calls: an accepted completion, sent with the count of its packets and n = its wire length less 48 and less 16 a
-- packet, puts out exactly the 48 bytes of its own URB's RET_SUBMIT, with the status that it answered, then, for IN, the first
-- actual_length bytes of the device's data, also of a short read, then the descriptors of the URB's packets: in order, whatever each step may
-- send, and within as many steps as there are bytes if each may send one. An OUT has no data.
pub record Sent (is : List Item) (c : Completion) (r : Returned) (header : List ℕ) : Type 0 where
  pub urb : Urb
  pub held : Pending is urb
  pub named : ticket_of urb ≡ c.ticket
  pub status : SentAs urb c r.status
  pub reads : urb.transfer.direction ≡ Codes.DIR-IN
      → let p = length (results_in c.kind) in
      Sends (part_of header c.payload (r.wire - Codes.HEADER-LEN - p * Codes.DESCRIPTOR-LEN) p)
      (header_for urb c r.status ++ take c.actual c.payload ++ descriptors_for urb c)
      (Codes.HEADER-LEN + c.actual + p * Codes.DESCRIPTOR-LEN)
  pub writes : Not urb.transfer.direction Codes.DIR-IN
      → let p = length (results_in c.kind) in
      Sends (part_of header c.payload (r.wire - Codes.HEADER-LEN - p * Codes.DESCRIPTOR-LEN) p)
      (header_for urb c r.status ++ descriptors_for urb c)
      (Codes.HEADER-LEN + p * Codes.DESCRIPTOR-LEN)

abbrev pub CompletionSent : Type 0
CompletionSent = (t : Table) (cs : List Call) (c : Completion) (r : Returned)
    → let act = complete_of (session_from t cs) c in
    act.answer ≡ done r → Sent (book_from t cs).items c r act.header

-- ## A submit

-- An attached session's devid is that of a device of the table, one that a look-up by a busid finds. So the devid that the
-- verdict on a submit asks for is busnum x 65,536 + devnum of an exported device.
abbrev pub AttachedTo : Type 0
AttachedTo = (t : Table) (cs : List Call)
    → (session_from t cs).link.phase ≡ Limits.ATTACHED
    → (busid : List ℕ) × (i : ℕ) × FirstDevice (devices_of t) busid i × ((session_from t cs).link.devid ≡ devid_of (get_or (devices_of t) i no_device))

-- The session is attached with no message in progress, and the lent buffers are big enough.
pub record Ready (s : Sess) (b : Book) (lent : Buffers) : Type 0 where
  pub attached : s.link.phase ≡ Limits.ATTACHED
  pub empty : b.part ≡ []
  pub work : Limits.WORK-LEN ≤ length lent.work
  pub reply : Limits.REPLY-LEN ≤ length lent.reply

-- m is one whole submit, so it has 48 bytes at least; one whole unlink.
abbrev pub WholeSubmit : List ℕ → Type 0
WholeSubmit m = ((header_of (header m)).command ≡ Codes.CMD-SUBMIT) × (length m ≡ message_len (header m))

abbrev pub WholeUnlink : List ℕ → Type 0
WholeUnlink m = ((header_of (header m)).command ≡ Codes.CMD-UNLINK) × (length m ≡ Codes.HEADER-LEN)

-- A feed answers a whole submit m, the first of its piece, by the book and the devid: it is accepted exactly when no row of
-- the two tables holds, it breaks the session exactly when a row of the first does, and is answered with a status exactly when
-- only a row of the second does.
pub record Verdict (devid time : ℕ) (is : List Item) (m : List ℕ) (event : Outcome Event) (consumed : ℕ) : Type 0 where
  pub accepted : (u : Urb)
      → (event ≡ done (submit u))
      ↔ (Clear (header_rows_by devid is (header m)) × Clear (submit_rows_by devid is m)
      × (u ≡ urb_of (suc (length is)) time (header_of (header m)) (drop (descriptors_at (header m)) m)))
  pub broken : (f : Fault) (ts : List ℕ)
      → (event ≡ done (break f ts)) ↔ (Gives (header_rows_by devid is (header m)) f × (ts ≡ tickets (pending_of is)))
  pub answered : (q st : ℕ)
      → (event ≡ done (answer q st))
      ↔ (Clear (header_rows_by devid is (header m)) × Gives (submit_rows_by devid is m) st × (q ≡ (header_of (header m)).transfer.seqnum))
  -- one of the three it is, with so many bytes consumed
  pub one : ((u : Urb) × (event ≡ done (submit u)) × (consumed ≡ length m))
      ⊎ (((q : ℕ) × (st : ℕ) × (event ≡ done (answer q st)) × (consumed ≡ length m))
      ⊎ ((f : Fault) × (ts : List ℕ) × (event ≡ done (break f ts)) × (consumed ≡ Codes.HEADER-LEN)))

abbrev pub AcceptIff : Type 0
AcceptIff = (t : Table) (cs : List Call) (lent : Buffers) (time : ℕ) (m rest : List ℕ)
    → let s = session_from t cs in
    let b = book_from t cs in
    let r = feed_of s lent (m ++ rest) time in
    Ready s b lent → WholeSubmit m → Verdict s.link.devid time b.items m r.event r.consumed

-- A feed answers a whole unlink m, the first of its piece: it breaks the session exactly when a row of the table holds, and is answered
-- exactly when none does. Either way its 48 bytes are consumed.
pub record UnlinkVerdict (devid : ℕ) (is : List Item) (m : List ℕ) (event : Outcome Event) (consumed : ℕ) : Type 0 where
  pub broken : (f : Fault) (ts : List ℕ)
      → (event ≡ done (break f ts)) ↔ (Gives (header_rows_by devid is (header m)) f × (ts ≡ tickets (pending_of is)))
  pub answered : ((q : ℕ) × (st : ℕ) × (o : Option ℕ) × (event ≡ done (unlink q st o))) ↔ Clear (header_rows_by devid is (header m))
  pub whole : consumed ≡ Codes.HEADER-LEN

abbrev pub UnlinkIff : Type 0
UnlinkIff = (t : Table) (cs : List Call) (lent : Buffers) (time : ℕ) (m rest : List ℕ)
    → let s = session_from t cs in
    let b = book_from t cs in
    let r = feed_of s lent (m ++ rest) time in
    Ready s b lent → WholeUnlink m → UnlinkVerdict s.link.devid b.items m r.event r.consumed

-- A submit that is answered with a status leaves the session as it was, with no message in progress: no ticket is used up.
abbrev pub AnsweredStays : Type 0
AnsweredStays = (t : Table) (cs : List Call) (p : List ℕ) (lent : Buffers) (time q st : ℕ)
    → let s = session_from t cs in
    (feed_of s lent p time).event ≡ done (answer q st) → (feed_of s lent p time).next ≡ between s

-- ## What a feed consumes

-- How long the first message of some bytes is, by those bytes; where they are too few to tell, more than they are.
abbrev pub request_size : List ℕ → ℕ
request_size x = cond (eqb (request_of (header x)).code Codes.OP-REQ-IMPORT) (Codes.OP-LEN + Codes.BUSID-LEN) Codes.OP-LEN

abbrev pub message_size : List ℕ → ℕ
message_size x = cond (eqb (header_of (header x)).command Codes.CMD-SUBMIT) (message_len (header x)) Codes.HEADER-LEN

-- With `came` bytes of a message before a piece of `more` bytes, k of the piece are consumed, just up to the message's n-th byte.
abbrev pub UpTo : (n came more k : ℕ) → Type 0
UpTo n came more k = (n ≤ came + more) × (came + k ≡ n)

-- A feed consumes the piece up to the end of the message, of `size` bytes, if that is in it, and else all of it (then it is
-- hungry); a break comes at byte `test`.
abbrev pub Reaches : (size test came more : ℕ) → Outcome Event → ℕ → Type 0
Reaches size test came more (refused n) k = k ≡ 0
Reaches size test came more (done hungry) k = (came + more < size) × (k ≡ more)
Reaches size test came more (done list) k = UpTo size came more k
Reaches size test came more (done (import st)) k = UpTo size came more k
Reaches size test came more (done (submit u)) k = UpTo size came more k
Reaches size test came more (done (answer q st)) k = UpTo size came more k
Reaches size test came more (done (unlink q st o)) k = UpTo size came more k
Reaches size test came more (done (break f ts)) k = UpTo test came more k

-- Of the bytes q of the message in progress and a piece p.
abbrev pub Consumption : Type 0
Consumption = (t : Table) (cs : List Call) (lent : Buffers) (p : List ℕ) (time : ℕ)
    → let s = session_from t cs in
    let q = (book_from t cs).part in
    let r = feed_of s lent p time in
    by_phase (eqb s.link.phase Limits.WAITING)
    (Reaches (request_size (q ++ p)) Codes.OP-LEN (length q) (length p) r.event r.consumed)
    (Reaches (message_size (q ++ p)) Codes.HEADER-LEN (length q) (length p) r.event r.consumed)

-- An empty piece is refused by the table, or else consumed; either way nothing changes.
abbrev pub EmptyPiece : Type 0
EmptyPiece = (t : Table) (cs : List Call) (lent : Buffers) (time : ℕ)
    → let s = session_from t cs in
    let b = book_from t cs in
    ((n : ℕ) × Gives (feed_rows_by b lent) n × (feed_of s lent [] time ≡ refused_feed s lent n))
    ⊎ (Clear (feed_rows_by b lent) × (feed_of s lent [] time ≡ record { event = done hungry; consumed = 0; buffers = lent; next = s }))
