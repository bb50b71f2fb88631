-- The plan of each event of a feed, and what a plan comes to when it is carried out.
use Rattle.std.specs.Prelude.{ℕ, ◌-◌, Option, Some, None, List, [], length, take, drop}
use Rattle.std.proofs.lemmas.List.Edits.{sets}
use Rattle.wire.specs.Codes
use Rattle.wire.specs.Status.{minus}
use Rattle.ground.specs.Writing.{over}
use Rattle.messages.specs.Messages.{iso_count, ret_unlink}
use Rattle.messages.specs.declared.message.Header.{Header}
use Rattle.messages.specs.declared.reply.RetSubmit.{RetSubmit}
use Rattle.exports.specs.declared.device.Table.{Table}
use Rattle.lookup.specs.Lookup.{device_in}
use Rattle.importing.specs.Imports.{import_reply, import_refusal}
use Rattle.listing.specs.Lists.{list_reply}
use Rattle.packets.specs.Packets.{in_array}
use Rattle.packets.specs.declared.packet.Packet.{Packet}
use Rattle.descriptors.specs.Descriptors.{refused_results}
use Rattle.replies.specs.Replies.{submit_reply}
use Rattle.pending.specs.Changes.{changed, keeps, appends, removes, clears}
use Rattle.pending.specs.Pending.{list_of, listing}
use Rattle.pending.specs.declared.change.Change.{Change}
use Rattle.pending.specs.declared.counts.Counts.{Counts}
use Rattle.pending.specs.declared.list.Pending.{Pending}
use Rattle.pending.specs.declared.list.Tickets.{Tickets}
use Rattle.pending.specs.declared.look.Look.{Look}
use Rattle.limits.specs.Limits
use Rattle.ground.specs.Tests.{first, decide}
use Rattle.verdicts.specs.Verdicts.{submit_tests}
use Rattle.verdicts.specs.declared.verdict.Fault.{Fault}
use Rattle.model.specs.State.{Sess, submit_packets}
use Rattle.model.specs.Answers.{Outcome, Event}
use Rattle.model.specs.Judging.{record_of, bad_packets}
use Rattle.model.specs.Acts.{ret_for, Buffers}
use Rattle.model.specs.Cut.{lent}
use Rattle.links.specs.Links.{Parts, whole, view_of_parts, link_with_progress, resting, plus, ended_link}
use Rattle.links.specs.declared.link.Link.{Link}
use Rattle.links.specs.declared.link.Progress.{Progress}
use Rattle.events.specs.Answers.{event_of}
use Rattle.events.specs.declared.answer.Event.{Event as Case}
use Rattle.events.specs.declared.answer.Event.TheVariants.{Hungry, List as Listed, Import, Submit, Answer, Unlink, Break, Refused}
use Rattle.events.specs.declared.plan.Plan.{Plan}
use Rattle.events.specs.declared.plan.Reply.{Reply}
use Rattle.events.specs.declared.plan.Reply.TheVariants.{Submit as RetSubmits, Unlink as RetUnlinks}
use Rattle.events.specs.declared.plan.RequestPlan.{RequestPlan}
use Rattle.events.specs.declared.plan.RequestReply.{RequestReply}
use Rattle.events.specs.declared.plan.RequestReply.TheVariants.{List as ListReply, Import as ImportReply}

-- ## The plan of each event

-- A plan that copies nothing, whose reply has no packets.
abbrev pub plain : Link → Change → Case → ℕ → Option Reply → Plan
plain k c e consumed reply =
    record { link = k; change = c; event = e; consumed = consumed; reply = reply; iso = in_array []; body = 0; from = 0; to = 0 }

-- The same plan with packets in its reply, with bytes of the piece for the work buffer.
abbrev pub with_iso : List Packet → Plan → Plan
with_iso iso r =
    record {
      link = r.link;
      change = r.change;
      event = r.event;
      consumed = r.consumed;
      reply = r.reply;
      iso = iso;
      body = r.body;
      from = r.from;
      to = r.to;
    }

abbrev pub with_body : (body from to : ℕ) → Plan → Plan
with_body body from to r =
    record {
      link = r.link;
      change = r.change;
      event = r.event;
      consumed = r.consumed;
      reply = r.reply;
      iso = r.iso;
      body = body;
      from = from;
      to = to;
    }

-- k: the link before; n: how many are pending; h: the header of the message; iso: its packets, as the array has them.
abbrev pub refused_plan : Link → ℕ → ℕ → Plan
refused_plan k n number = plain k (keeps n) (Refused number) 0 None

abbrev pub hungry_plan : Link → ℕ → Progress → ℕ → Plan
hungry_plan k n p consumed = plain (link_with_progress p k) (keeps n) Hungry consumed None

abbrev pub broken_plan : Link → ℕ → Fault → ℕ → Plan
broken_plan k n f consumed = plain (ended_link k n) (clears n) (Break f) consumed None

abbrev pub answered_plan : Link → ℕ → Header → List Packet → (status consumed : ℕ) → Plan
answered_plan k n h iso status consumed =
    let u = h.transfer in
    with_iso iso
    (plain (resting Limits.ATTACHED k.devid k.counts) (keeps n) (Answer u.seqnum status) consumed (Some (RetSubmits (ret_for u status 0 0))))

abbrev pub accepted_plan : Link → ℕ → Header → List Packet → (consumed time : ℕ) → Plan
accepted_plan k n h iso consumed time =
    let c = k.counts in
    let ticket = plus c.accepted 1 in
    let counts : Counts = record { accepted = ticket; returned = c.returned; unlinked = c.unlinked; dropped = c.dropped } in
    plain (resting Limits.ATTACHED k.devid counts) (appends n (record_of ticket time h iso)) (Submit ticket time h.transfer) consumed None

-- ds: the bytes of its descriptors.
unfoldable pub submitted_plan : Link → ℕ → Header → (ds : List ℕ) → (consumed time : ℕ) → Plan
submitted_plan k n h ds consumed time =
    let ks = submit_packets h ds in
    decide (first (submit_tests h k.devid (bad_packets h.transfer ks) n k.counts.accepted))
    (λ status. answered_plan k n h (in_array ks) status consumed)
    (accepted_plan k n h (in_array ks) consumed time)

abbrev pub unlink_reply : Header → ℕ → Reply
unlink_reply h status = RetUnlinks (record { seqnum = h.transfer.seqnum; status = status })

abbrev pub removed_plan : Link → ℕ → Header → Look → ℕ → Plan
removed_plan k n h look consumed =
    let c = k.counts in
    let status = minus Codes.ECONNRESET in
    let counts : Counts = record { accepted = c.accepted; returned = c.returned; unlinked = plus c.unlinked 1; dropped = c.dropped } in
    plain (resting Limits.ATTACHED k.devid counts) (removes n look.place) (Unlink h.transfer.seqnum status (Some look.ticket)) consumed
    (Some (unlink_reply h status))

abbrev pub missed_plan : Link → ℕ → Header → ℕ → Plan
missed_plan k n h consumed =
    plain (resting Limits.ATTACHED k.devid k.counts) (keeps n) (Unlink h.transfer.seqnum 0 None) consumed (Some (unlink_reply h 0))

abbrev pub unlinked_plan : Link → ℕ → Header → Option Look → ℕ → Plan
unlinked_plan k n h None consumed = missed_plan k n h consumed
unlinked_plan k n h (Some look) consumed = removed_plan k n h look consumed

-- ## The plan of each event of a request

abbrev pub rest_plan : Link → ℕ → (phase devid : ℕ) → Case → ℕ → Plan
rest_plan k n phase devid e consumed = plain (resting phase devid k.counts) (keeps n) e consumed None

abbrev pub silent_plan : Plan → RequestPlan
silent_plan r = record { plan = r; reply = None }

abbrev pub list_plan : Link → ℕ → ℕ → RequestPlan
list_plan k n consumed = record { plan = rest_plan k n Limits.CLOSED k.devid Listed consumed; reply = Some ListReply }

abbrev pub unknown_plan : Link → ℕ → ℕ → RequestPlan
unknown_plan k n consumed = record { plan = rest_plan k n Limits.CLOSED k.devid (Import 1) consumed; reply = Some (ImportReply None) }

abbrev pub import_plan : Link → ℕ → (place devid : ℕ) → ℕ → RequestPlan
import_plan k n place devid consumed = record { plan = rest_plan k n Limits.ATTACHED devid (Import 0) consumed; reply = Some (ImportReply (Some place)) }

-- ## A plan, carried out

-- All that a feed answers and leaves: the event and what stands beside it, the bytes consumed, the length of the reply, both
-- buffers, the next session.
pub record Result : Type 0 where
  pub event : Outcome Event
  pub setup : List ℕ
  pub iso : List Packet
  pub dropped : Tickets
  pub consumed : ℕ
  pub length : ℕ
  pub buffers : Buffers
  pub next : Sess

-- The reply to a submit that is refused.
abbrev pub refusal_bytes : List Packet → RetSubmit → List ℕ
refusal_bytes iso r = submit_reply r iso (refused_results (iso_count r.packets) r.status)

-- The bytes of a reply to a message, and to a request.
abbrev pub reply_bytes : List Packet → Option Reply → List ℕ
reply_bytes iso None = []
reply_bytes iso (Some (RetSubmits r)) = refusal_bytes iso r
reply_bytes iso (Some (RetUnlinks r)) = ret_unlink r

abbrev pub request_bytes : Table → Option RequestReply → List ℕ
request_bytes t None = []
request_bytes t (Some ListReply) = list_reply t
request_bytes t (Some (ImportReply None)) = import_refusal
request_bytes t (Some (ImportReply (Some i))) = import_reply (device_in t i)

-- The parts of the session that a plan leaves, and the tickets that a change drops.
abbrev pub parts_after : Table → Pending → Plan → Parts
parts_after t l r = whole t r.link (changed l r.change)

abbrev pub tickets_dropped : Pending → Change → Tickets
tickets_dropped l c = listing (take c.dropped (list_of l))

-- The bytes of the piece that go to the work buffer.
abbrev pub data_of : Plan → List ℕ → List ℕ
data_of r piece = take (r.to - r.from) (drop r.from piece)

-- With these bytes as its reply.
abbrev pub carried_with : List ℕ → Table → Pending → Plan → List ℕ → Buffers → Result
carried_with bytes t l r piece b =
    record {
      event = event_of r.event r.change.urb.setup r.change.urb.iso (tickets_dropped l r.change);
      setup = r.change.urb.setup;
      iso = r.change.urb.iso;
      dropped = tickets_dropped l r.change;
      consumed = r.consumed;
      length = length bytes;
      buffers = lent (sets b.work r.body (data_of r piece)) (over bytes b.reply);
      next = view_of_parts (parts_after t l r);
    }
