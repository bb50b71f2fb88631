-- Claims on feeding (PROTOCOL.md, 3.2 and 8): what a feed consumes, that the stream may be cut anywhere, what a feed leaves as it was.
use Rattle.std.specs.Prelude.{ℕ, ◌+◌, ◌*◌, ◌≤◌, ◌<◌, ◌≡◌, false, length, take, drop}
use mathlib.Core.List.{List, [], ◌∷◌, ◌++◌, map, flatten}
use Rattle.std.proofs.Math.Option.{Option}
use Rattle.std.proofs.lemmas.List.Edits.{sets}
use Rattle.wire.specs.Codes
use Rattle.ground.specs.Writing.{over}
use Rattle.messages.specs.Messages.{body_len}
use Rattle.pending.specs.declared.urb.Urb.{Urb}
use Rattle.limits.specs.Limits
use Rattle.verdicts.specs.declared.verdict.Fault.{Fault}
use Rattle.model.specs.Machine.{Fed, Ran, Piece, drain_all}
use Rattle.model.specs.State.{Message, partly, headed, Sess, closed, header_in, room, place}
use Rattle.model.specs.Answers.{Outcome, refused, done, Event, hungry, list, submit, unlink, break, says_nothing}
use Rattle.model.specs.Judging.{grow}
use Rattle.model.specs.Acts.{reply_to, Buffers, feed_of, refused_feed, Completion, results_in, complete_of, refused_completion, close_of}

-- "buffers have at least their least size"
pub record Enough (b : Buffers) : Type 0 where
  pub work : Limits.WORK-LEN ≤ length b.work
  pub reply : Limits.REPLY-LEN ≤ length b.reply

abbrev pub Feeding : Type 0
Feeding = Fed Sess (Outcome Event) Buffers

-- ## What a feed consumes

pub record Consuming (s : Sess) (b : Buffers) (piece : List ℕ) (time : ℕ) : Type 0 where
  -- at most the piece, all of it by a feed that is hungry, at least one byte if there is one
  pub most : (feed_of s b piece time).consumed ≤ length piece
  pub all : (feed_of s b piece time).event ≡ done hungry → (feed_of s b piece time).consumed ≡ length piece
  pub some : 0 < length piece → 0 < (feed_of s b piece time).consumed
  -- an empty piece is answered hungry, and nothing changes
  pub none : piece ≡ [] → feed_of s b piece time ≡ record { event = done hungry; consumed = 0; buffers = b; next = s }
  -- what is said within the first bytes, the others don't change
  pub within : (rest : List ℕ) → says_nothing (feed_of s b piece time).event ≡ false → feed_of s b (piece ++ rest) time ≡ feed_of s b piece time

abbrev pub Consumes : Type 0
Consumes = (s : Sess) (b : Buffers) (piece : List ℕ) (time : ℕ) → closed s ≡ false → Enough b → Consuming s b piece time

-- ## What a feed writes

-- The state when a run of symbols is in, and what they do to the buffers, whatever is to be said.
abbrev pub step_all : {St X : Type 0} → (St → X → St) → St → List X → St
step_all step s [] = s
step_all step s (x ∷ xs) = step_all step (step s x) xs

abbrev pub put_all : {St X B : Type 0} → (St → X → St) → (St → X → B → B) → St → List X → B → B
put_all step put s [] b = b
put_all step put s (x ∷ xs) b = put_all step put (step s x) xs (put s x b)

-- The session when what a feed consumed is in.
abbrev pub taken : Sess → List ℕ → Feeding → Sess
taken s piece r = step_all grow s (take r.consumed piece)

-- What the feed wrote then to the reply buffer.
abbrev pub outcome_reply : Sess → Outcome Event → List ℕ
outcome_reply s (refused n) = []
outcome_reply s (done e) = reply_to s e

abbrev pub replied : Sess → List ℕ → Feeding → List ℕ
replied s piece r = outcome_reply (taken s piece r) r.event

-- "The answer gives the bytes consumed, the reply's length and the event": the length.
abbrev pub written : Sess → List ℕ → Feeding → ℕ
written s piece r = length (replied s piece r)

-- What it wrote before to the work buffer: of the bytes consumed, those past the message's header.
abbrev pub body_placed : Sess → List ℕ → Feeding → List ℕ
body_placed s piece r = drop (room s.link.message) (take r.consumed piece)

-- ## Cutting

-- Pieces of the stream, each with the time that its feeds are given; all their bytes.
abbrev pub Timed : Type 0
Timed = List (Piece ℕ ℕ)

abbrev pub all_bytes : Timed → List ℕ
all_bytes ps = flatten (map (λ p. p.symbols) ps)

-- "the unread rest of a piece is fed next until used up, and nothing is fed once it is closed". Of every answer but hungry the caller keeps
-- the event, both buffers as they stood then and the time; the reply is `replied`, at the front of the reply buffer.
unfoldable pub drained_of : Sess → Buffers → Timed → Ran Sess (Outcome Event) ℕ Buffers
drained_of s b ps = drain_all feed_of says_nothing closed s b ps

-- Each such answer comes with the last byte consumed for its message: the times given there.
abbrev pub times_of : {Ev : Type 0} → Ran Sess Ev ℕ Buffers → List ℕ
times_of r = map (λ n. n.time) r.notes

-- Pieces that make up the same bytes, empty ones among them, and "give the same time with each message's last byte", give the same: the
-- answers with their buffers, the sum of bytes consumed, the buffers and the session at the end. The session is any, within a message too;
-- a closed one is fed nothing.
abbrev pub Cutting : Type 0
Cutting = (s : Sess) (b : Buffers) (ps qs : Timed) → Enough b → all_bytes ps ≡ all_bytes qs
    → times_of (drained_of s b ps) ≡ times_of (drained_of s b qs) → drained_of s b ps ≡ drained_of s b qs

-- The same where the caller keeps each reply by itself, and its length, too.
pub record Answer : Type 0 where
  pub event : Outcome Event
  pub reply : List ℕ
  pub length : ℕ

abbrev pub answer : Sess → List ℕ → Feeding → Fed Sess Answer Buffers
answer s piece r =
    record {
      event = record { event = r.event; reply = replied s piece r; length = written s piece r };
      consumed = r.consumed;
      buffers = r.buffers;
      next = r.next;
    }

unfoldable pub answers_of : Sess → Buffers → Timed → Ran Sess Answer ℕ Buffers
answers_of s b ps = drain_all (λ s b piece time. answer s piece (feed_of s b piece time)) (λ a. says_nothing a.event) closed s b ps

abbrev pub CuttingAnswers : Type 0
CuttingAnswers = (s : Sess) (b : Buffers) (ps qs : Timed) → Enough b → all_bytes ps ≡ all_bytes qs
    → times_of (answers_of s b ps) ≡ times_of (answers_of s b qs) → answers_of s b ps ≡ answers_of s b qs

-- All the bytes are consumed, but by a session that is closed in the end.
abbrev pub Draining : Type 0
Draining = (s : Sess) (b : Buffers) (ps : Timed) → Enough b
    → closed (drained_of s b ps).next ≡ false → (drained_of s b ps).consumed ≡ length (all_bytes ps)

-- ## What a feed leaves as it was

-- The header of the message in progress isn't whole.
abbrev pub Heading : Message → Type 0
Heading (partly bytes) = length bytes < Codes.HEADER-LEN
Heading (headed h body ds) = ⊥

pub record Leaving (s : Sess) (b : Buffers) (piece : List ℕ) (r : Feeding) : Type 0 where
  -- a refusal changes nothing and consumes nothing; a break changes no buffer
  pub refuses : (n : ℕ) → r.event ≡ refused n → r ≡ refused_feed s b n
  pub broken : (f : Fault) (ts : List ℕ) → r.event ≡ done (break f ts) → r.buffers ≡ b
  -- hungry and an accepted submit leave the reply buffer
  pub waits : r.event ≡ done hungry → r.buffers.reply ≡ b.reply
  pub accepts : (u : Urb) → r.event ≡ done (submit u) → r.buffers.reply ≡ b.reply
  -- "A reply starts at 0 of the reply buffer; bytes past it don't change."
  pub reply : r.buffers.reply ≡ over (replied s piece r) b.reply
  -- "at its own position from 0 as it comes .. nothing else is written there"
  pub work : r.buffers.work ≡ sets b.work (place s.link.message) (body_placed s piece r)
  -- so nothing at all by a list, any other request, an unlink, a message without a body
  pub lists : r.event ≡ done list → r.buffers.work ≡ b.work
  pub requests : s.link.phase ≡ Limits.WAITING → Heading s.link.message → r.buffers.work ≡ b.work
  pub unlinks : (q st : ℕ) (t : Option ℕ) → r.event ≡ done (unlink q st t) → r.buffers.work ≡ b.work
  pub bodiless : Heading s.link.message → body_len (header_in (taken s piece r).link.message) ≡ 0 → r.buffers.work ≡ b.work

abbrev pub Untouched : Type 0
Untouched = (s : Sess) (b : Buffers) (piece : List ℕ) (time : ℕ) → Leaving s b piece (feed_of s b piece time)

-- An answer without its work buffer.
abbrev pub but_work : Feeding → Fed Sess (Outcome Event) (List ℕ)
but_work r = record { event = r.event; consumed = r.consumed; buffers = r.buffers.reply; next = r.next }

abbrev pub lent : List ℕ → List ℕ → Buffers
lent work reply = record { work = work; reply = reply }

-- "A caller who changes the work buffer within a message changes only that data." Of two work buffers that are equally long, either
-- gives the same answer, and gets the same bytes at the same position.
pub record Alike (at : ℕ) (v w : List ℕ) (r q : Feeding) : Type 0 where
  pub answer : but_work r ≡ but_work q
  pub bytes : List ℕ
  pub first : r.buffers.work ≡ sets v at bytes
  pub second : q.buffers.work ≡ sets w at bytes

abbrev pub WorkFree : Type 0
WorkFree = (s : Sess) (v w reply piece : List ℕ) (time : ℕ) → length v ≡ length w
    → Alike (place s.link.message) v w (feed_of s (lent v reply) piece time) (feed_of s (lent w reply) piece time)

-- The other acts: a refusal changes nothing, and a completion writes only the header buffer's first 48 bytes and 16 a packet.
pub record Keeping (s : Sess) (c : Completion) : Type 0 where
  pub complete : (n : ℕ) → (complete_of s c).answer ≡ refused n → complete_of s c ≡ refused_completion s c n
  pub header : let n = Codes.HEADER-LEN + length (results_in c.kind) * Codes.DESCRIPTOR-LEN in
      drop n (complete_of s c).header ≡ drop n c.header
  pub close : (n : ℕ) → (close_of s).answer ≡ refused n → (close_of s).next ≡ s

abbrev pub Keeps : Type 0
Keeps = (s : Sess) (c : Completion) → Keeping s c
