-- A completion and a close: the plan of each, and what it comes to.
use Rattle.std.specs.Prelude.{ℕ, ◌≤◌, ◌≡◌, true, cond, Option as Maybe, Some, None, Ok, Err, is_some, List, [], eqb, length, take}
use Rattle.ground.specs.Writing.{over}
use Rattle.messages.specs.Messages.{iso_count}
use Rattle.messages.specs.declared.message.Transfer.{Transfer}
use Rattle.messages.specs.declared.reply.RetSubmit.{RetSubmit}
use Rattle.results.specs.Results.{results_of, errors}
use Rattle.results.specs.declared.PacketResult.{PacketResult}
use Rattle.results.specs.declared.Results.{Results}
use Rattle.packets.specs.Packets.{in_array}
use Rattle.packets.specs.declared.packet.Packet.{Packet}
use Rattle.replies.specs.Replies.{submit_reply}
use Rattle.exports.specs.declared.device.Table.{Table}
use Rattle.transmit.specs.Part.{wire_length}
use Rattle.pending.specs.Changes.{changed, keeps, removes, clears}
use Rattle.pending.specs.Looks.{look_for}
use Rattle.pending.specs.Pending.{Whole, list_of}
use Rattle.pending.specs.declared.list.Pending.{Pending}
use Rattle.pending.specs.declared.look.Key.TheVariants.{Ticket}
use Rattle.pending.specs.declared.look.Look.{Look}
use Rattle.limits.specs.Limits
use Rattle.ground.specs.Tests.{first, decide}
use Rattle.verdicts.specs.Verdicts.{completion_refusals, status_sent}
use Rattle.verdicts.specs.declared.verdict.Refusal.{Refusal}
use Rattle.verdicts.specs.declared.verdict.Refusal.TheVariants.{SessionClosed, NotPending}
use Rattle.verdicts.specs.declared.verdict.Completing.{Completing}
use Rattle.verdicts.specs.declared.verdict.Named.{Named}
use Rattle.model.specs.Acts
use Rattle.model.specs.Acts.{Kind, plain, isochronous, results_in, kind_fits, ret_for, Complete, complete_of, Close, close_of}
use Rattle.links.specs.Links.{whole, view_of_parts, phase_of, link_with_counts, plus, ended_link, TidyParts}
use Rattle.links.specs.declared.link.Link.{Link}
use Rattle.events.specs.Answers.{completion_of, closing_of, tickets_of, listed_by}
use Rattle.events.specs.Plans.{tickets_dropped}
use Rattle.settling.specs.declared.close.ClosePlan.{ClosePlan}
use Rattle.settling.specs.declared.completion.CompletionPlan.{CompletionPlan}
use Rattle.settling.specs.declared.completion.Given.{Given}

-- ## A completion

-- Which act it is, and the results of an isochronous one.
abbrev pub kind_of_results : Maybe Results → Kind
kind_of_results None = plain
kind_of_results (Some r) = isochronous (results_of r)

abbrev pub kind_of : Given → Kind
kind_of given = kind_of_results given.results

-- The array of results that was given, if one was.
abbrev pub told : Maybe Results → List PacketResult
told None = []
told (Some r) = r.list

-- What is asked of the URB that was found.
abbrev pub named_look : Given → Maybe Look → Maybe Named
named_look given None = None
named_look given (Some look) =
    let u = look.transfer in
    Some (record { length = u.length; direction = u.direction; fits = kind_fits (kind_of given) (iso_count u.packets) look.iso given.actual })

abbrev pub judged_by : ℕ → Maybe Look → Given → (payload header : ℕ) → Completing
judged_by phase look given payload header =
    record {
      closed = eqb phase Limits.CLOSED;
      header = header;
      status = given.status;
      actual = given.actual;
      payload = payload;
      urb = named_look given look;
    }

-- The header of the reply to a URB, with the status sent; the answer has the same.
abbrev pub return_for : Transfer → Given → RetSubmit
return_for u given = ret_for u (status_sent u given.status given.actual) given.actual (errors (results_in (kind_of given)))

-- One URB more was returned.
abbrev pub returned_link : Link → Link
returned_link k =
    let c = k.counts in
    link_with_counts (record { accepted = c.accepted; returned = plus c.returned 1; unlinked = c.unlinked; dropped = c.dropped }) k

abbrev pub refusal_plan : Link → ℕ → Refusal → CompletionPlan
refusal_plan k n refusal = record { link = k; change = keeps n; answer = Err refusal; reply = None; iso = in_array [] }

abbrev pub return_plan : Link → ℕ → Look → Given → CompletionPlan
return_plan k n look given =
    let ret = return_for look.transfer given in
    record {
      link = returned_link k;
      change = removes n look.place;
      answer = Ok (record { length = wire_length look.transfer.direction given.actual (iso_count look.transfer.packets); status = ret.status });
      reply = Some ret;
      iso = look.iso;
    }

-- What wasn't found is refused by its judgement.
abbrev pub found_plan : Link → ℕ → Maybe Look → Given → CompletionPlan
found_plan k n None given = refusal_plan k n NotPending
found_plan k n (Some look) given = return_plan k n look given

unfoldable pub completion_plan : Link → ℕ → Maybe Look → Given → (payload header : ℕ) → CompletionPlan
completion_plan k n look given payload header =
    decide (first (completion_refusals (judged_by (phase_of k n) look given payload header))) (refusal_plan k n) (found_plan k n look given)

-- The header of a reply, if there is one, and a descriptor for each of its packets.
abbrev pub replied : Maybe RetSubmit → List Packet → List PacketResult → List ℕ → List ℕ
replied None iso rs header = header
replied (Some ret) iso rs header = over (submit_reply ret iso (take (iso_count ret.packets) rs)) header

-- The plan, carried out: of the results as many as the URB has packets are sent back.
abbrev pub completed_by : Table → Pending → CompletionPlan → List PacketResult → List ℕ → Complete
completed_by t l r rs header =
    record {
      answer = completion_of r.answer;
      header = replied r.reply r.iso rs header;
      next = view_of_parts (whole t r.link (changed l r.change));
    }

-- What a completion's plan is to its session, with an array of results: a good one has room for its header; carried out it is the completion
-- of the definitions; a refusal leaves the very link and list; what it leaves is tidy.
pub record CompletionDone (r : CompletionPlan) (t : Table) (k : Link) (l : Pending) (rs : List PacketResult) (c : Acts.Completion) : Type 0 where
  pub fits : is_some r.reply ≡ true → Limits.HEADER-ROOM ≤ length c.header
  pub done : completed_by t l r rs c.header ≡ complete_of (view_of_parts (whole t k l)) c
  pub same : (refusal : Refusal) → r.answer ≡ Err refusal → (r.link ≡ k) × (r.change ≡ keeps l.count)
  pub tidy : TidyParts (whole t k l) → TidyParts (whole t r.link (changed l r.change))

-- What is given with a ticket and the buffers, as the definitions have it.
abbrev pub given_for : Given → (ticket : ℕ) → (payload header : List ℕ) → Acts.Completion
given_for given ticket payload header =
    record { ticket = ticket; status = given.status; actual = given.actual; kind = kind_of given; payload = payload; header = header }

-- Looked up by its ticket, planned from values; the arrays have all their places and the count of the accepted is a ticket, as in the code.
abbrev pub CompletionComposed : Type 0
CompletionComposed = (t : Table) (k : Link) (l : Pending) (given : Given) (ticket : ℕ) (payload header : List ℕ) → Whole l
    → ((r : Results) → given.results ≡ Some r → length r.list ≡ Limits.MAX-PACKETS) → k.counts.accepted ≤ Limits.LAST-TICKET
    → let r = completion_plan k l.count (look_for (list_of l) (Ticket ticket)) given (length payload) (length header) in
    CompletionDone r t k l (told given.results) (given_for given ticket payload header)

-- ## A close

-- A closed session refuses it; of any other all that is pending is dropped.
abbrev pub refused_close : Link → ℕ → ClosePlan
refused_close k n = record { link = k; change = keeps n; answer = Err SessionClosed }

abbrev pub dropping_close : Link → ℕ → ClosePlan
dropping_close k n = record { link = ended_link k n; change = clears n; answer = Ok tt }

unfoldable pub close_plan : Link → ℕ → ClosePlan
close_plan k n = cond (eqb (phase_of k n) Limits.CLOSED) (refused_close k n) (dropping_close k n)

abbrev pub closed_by : Table → Pending → ClosePlan → Close
closed_by t l r = record { answer = closing_of r.answer (tickets_dropped l r.change); next = view_of_parts (whole t r.link (changed l r.change)) }

-- What a close's plan is to its session, and the tickets that stand beside its answer.
pub record CloseDone (r : ClosePlan) (t : Table) (k : Link) (l : Pending) : Type 0 where
  pub done : closed_by t l r ≡ close_of (view_of_parts (whole t k l))
  pub dropped : tickets_dropped l r.change ≡ tickets_of (listed_by (close_of (view_of_parts (whole t k l))).answer)
  pub same : (refusal : Refusal) → r.answer ≡ Err refusal → (r.link ≡ k) × (r.change ≡ keeps l.count)
  pub tidy : TidyParts (whole t k l) → TidyParts (whole t r.link (changed l r.change))

-- The same of a close.
abbrev pub CloseComposed : Type 0
CloseComposed = (t : Table) (k : Link) (l : Pending) → Whole l → k.counts.accepted ≤ Limits.LAST-TICKET → CloseDone (close_plan k l.count) t k l
