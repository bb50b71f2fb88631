-- What each act hands back, as one value for each session and each input: what is asked is looked up and planned, and the plan is carried
-- out on the session. An act by value answers with it, and an act in place leaves it.
use Rattle.std.specs.Prelude.{ℕ, cond, Some, None, Ok, Err, List, [], eqb, length}
use Rattle.results.specs.declared.Results.{Results}
use Rattle.ages.specs.Ages.{stale_in}
use Rattle.pending.specs.Changes.{changed}
use Rattle.pending.specs.Looks.{look_for}
use Rattle.pending.specs.Pending.{list_of, listing}
use Rattle.pending.specs.declared.change.Change.{Change}
use Rattle.pending.specs.declared.look.Key.TheVariants.{Ticket}
use Rattle.limits.specs.Limits
use Rattle.links.specs.Links.{phase_of}
use Rattle.links.specs.declared.link.Link.{Link}
use Rattle.events.specs.Plans.{reply_bytes, request_bytes, tickets_dropped}
use Rattle.verdicts.specs.declared.verdict.Refusal.TheVariants.{SessionClosed}
use Rattle.events.specs.declared.plan.Plan.{Plan}
use Rattle.feeding.specs.Feeding.{feed_plan}
use Rattle.feeding.specs.Planning.{request_plan}
use Rattle.settling.specs.Settling.{completion_plan, close_plan}
use Rattle.settling.specs.declared.completion.Given.{Given}
use Rattle.session.specs.Views.{answer_of}
use Rattle.session.specs.declared.state.Session.{Session}
use Rattle.session.specs.declared.answer.Fed.{Fed}
use Rattle.session.specs.declared.answer.Completed.{Completed}
use Rattle.session.specs.declared.answer.Closed.{Closed}
use Rattle.session.specs.declared.answer.Inquired.{Inquired}

-- The session after a plan: its link, and its change of the pending list.
abbrev pub session_after : Session → Link → Change → Session
session_after s k c = record { table = s.table; link = k; pending = changed s.pending c }

-- A feed's plan with these bytes as its reply, carried out.
abbrev pub fed_by : Session → Plan → (bytes : List ℕ) → Fed
fed_by s r bytes =
    record {
      session = session_after s r.link r.change;
      answer = answer_of r (length bytes);
      dropped = tickets_dropped s.pending r.change;
    }

-- A feed of a session that doesn't wait, and of one that does; work and reply are the buffers' lengths.
abbrev pub message_fed : Session → (piece : List ℕ) → (work reply time : ℕ) → Fed
message_fed s piece work reply time = let r = feed_plan s.link s.pending piece work reply time in fed_by s r (reply_bytes r.iso r.reply)

abbrev pub request_fed : Session → (piece : List ℕ) → (work reply : ℕ) → Fed
request_fed s piece work reply =
    let r = request_plan s.table s.link s.pending.count piece work reply in
    fed_by s r.plan (request_bytes s.table r.reply)

unfoldable pub feed_value : Session → (piece : List ℕ) → (work reply time : ℕ) → Fed
feed_value s piece work reply time =
    cond (eqb s.link.phase Limits.WAITING) (request_fed s piece work reply) (message_fed s piece work reply time)

-- What is given with a ticket: of a URB that isn't isochronous, and of one that is.
abbrev pub plain_given : (status actual : ℕ) → Given
plain_given status actual = record { status = status; actual = actual; results = None }

abbrev pub iso_given : (status total : ℕ) → Results → Given
iso_given status total results = record { status = status; actual = total; results = Some results }

-- A completion; payload and header are lengths.
unfoldable pub complete_value : Session → Given → (ticket payload header : ℕ) → Completed
complete_value s given ticket payload header =
    let r = completion_plan s.link s.pending.count (look_for (list_of s.pending) (Ticket ticket)) given payload header in
    record { session = session_after s r.link r.change; answer = r.answer }

unfoldable pub close_value : Session → Closed
close_value s =
    let r = close_plan s.link s.pending.count in
    record { session = session_after s r.link r.change; answer = r.answer; dropped = tickets_dropped s.pending r.change }

-- An inquiry, which leaves the session as it is.
unfoldable pub stale_value : Session → (time limit : ℕ) → Inquired
stale_value s time limit =
    cond (eqb (phase_of s.link s.pending.count) Limits.CLOSED) (record { answer = Err SessionClosed; stale = listing [] })
    (record { answer = Ok tt; stale = listing (stale_in time limit (list_of s.pending)) })
