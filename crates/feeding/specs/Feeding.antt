-- A feed is a plan, carried out.
use Rattle.std.specs.Prelude.{ℕ, ◌+◌, ◌-◌, ◌≤◌, ◌≡◌, List, length}
use Rattle.wire.specs.Codes
use Rattle.exports.specs.declared.device.Table.{Table}
use Rattle.pending.specs.Changes.{keeps}
use Rattle.pending.specs.Pending.{Whole, list_of}
use Rattle.pending.specs.declared.list.Pending.{Pending}
use Rattle.limits.specs.Limits
use Rattle.model.specs.State.{Sess}
use Rattle.model.specs.Acts.{Buffers, feed_of}
use Rattle.model.specs.Cut.{Feeding, written}
use Rattle.links.specs.Links.{whole, view_of_parts, TidyParts}
use Rattle.links.specs.declared.link.Link.{Link}
use Rattle.events.specs.Answers.{urb_beside, tickets_of, dropped_by}
use Rattle.events.specs.Plans.{Result, reply_bytes, request_bytes, parts_after, carried_with}
use Rattle.events.specs.declared.answer.Event.TheVariants.{Refused}
use Rattle.events.specs.declared.plan.Plan.{Plan}
use Rattle.feeding.specs.Asking.{ask_of, look_asked}
use Rattle.feeding.specs.Planning.{message_plan, request_plan}

-- All that a feed answers and leaves, by the definitions.
abbrev pub result_of : Sess → List ℕ → Feeding → Result
result_of s piece r =
    record {
      event = r.event;
      setup = (urb_beside r.event).setup;
      iso = (urb_beside r.event).iso;
      dropped = tickets_of (dropped_by r.event);
      consumed = r.consumed;
      length = written s piece r;
      buffers = r.buffers;
      next = r.next;
    }

unfoldable pub fed_of : Sess → Buffers → List ℕ → (time : ℕ) → Result
fed_of s b piece time = result_of s piece (feed_of s b piece time)

-- What a plan for a piece is to its session, with these bytes as its reply: its data lies in the piece and fits the work buffer, its
-- reply fits the reply buffer; carried out it is the feed of the definitions; a refusal leaves the very link and list; what it leaves is
-- tidy.
pub record Composed (r : Plan) (bytes : List ℕ) (t : Table) (k : Link) (l : Pending) (piece : List ℕ) (b : Buffers) (time : ℕ) : Type 0 where
  pub inside : r.to ≤ length piece
  pub fits : r.body + (r.to - r.from) ≤ length b.work
  pub takes : length bytes ≤ Limits.REPLY-LEN → length bytes ≤ length b.reply
  pub fed : carried_with bytes t l r piece b ≡ fed_of (view_of_parts (whole t k l)) b piece time
  pub same : (number : ℕ) → r.event ≡ Refused number → (r.link ≡ k) × (r.change ≡ keeps l.count)
  pub tidy : TidyParts (whole t k l) → TidyParts (parts_after t l r)

-- As their types have it: the arrays have their lengths, and the count of accepted URBs is a number of 64 bits.
abbrev pub Arrays : Link → Pending → Type 0
Arrays k l =
    (length k.progress.head ≡ Codes.HEADER-LEN)
    × (length k.progress.descriptors ≡ Limits.DESCRIPTORS-LEN)
    × Whole l
    × (k.counts.accepted ≤ Limits.LAST-TICKET)

-- What a piece asks is looked up once in the pending list, and planned from values.
abbrev pub feed_plan : Link → Pending → (piece : List ℕ) → (work reply time : ℕ) → Plan
feed_plan k l piece work reply time =
    let a = ask_of k piece in
    message_plan k l.count a (look_asked (list_of l) a.key) piece work reply time

-- The feed of a message.
abbrev pub MessageComposed : Type 0
MessageComposed = (t : Table) (k : Link) (l : Pending) (piece : List ℕ) (b : Buffers) (time : ℕ) → Arrays k l → (k.phase ≡ Limits.WAITING → ⊥)
    → let r = feed_plan k l piece (length b.work) (length b.reply) time in
    Composed r (reply_bytes r.iso r.reply) t k l piece b time

-- A request, with which no time matters. (The table's array has its length, too.)
abbrev pub RequestComposed : Type 0
RequestComposed = (t : Table) (k : Link) (l : Pending) (piece : List ℕ) (b : Buffers) (time : ℕ) → Arrays k l → length t.devices ≡ Limits.MAX-DEVICES
    → k.phase ≡ Limits.WAITING
    → let r = request_plan t k l.count piece (length b.work) (length b.reply) in
    Composed r.plan (request_bytes t r.reply) t k l piece b time
