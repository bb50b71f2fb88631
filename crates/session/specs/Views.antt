-- The code's session and what its acts hand back, as the definitions have them.
use Rattle.std.specs.Prelude.{ℕ, List}
use Rattle.exports.specs.declared.device.Table.{Table}
use Rattle.pending.specs.Pending.{empty_pending}
use Rattle.model.specs.State.{Sess}
use Rattle.model.specs.Acts
use Rattle.model.specs.Cut.{lent}
use Rattle.links.specs.Links
use Rattle.events.specs.Answers.{event_of, completion_of, closing_of}
use Rattle.events.specs.Plans.{Result}
use Rattle.events.specs.declared.answer.Answer.{Answer}
use Rattle.events.specs.declared.plan.Plan.{Plan}
use Rattle.links.specs.declared.link.Standing.{Standing}
use Rattle.session.specs.declared.state.Session.{Session}
use Rattle.session.specs.declared.answer.Fed.{Fed}
use Rattle.session.specs.declared.answer.Completed.{Completed}
use Rattle.session.specs.declared.answer.Closed.{Closed}

-- Its three parts, as `links` reads them: where they don't fit together, as no act leaves it, it is taken for closed.
abbrev pub parts_of : Session → Links.Parts
parts_of s = Links.whole s.table s.link s.pending

abbrev pub view_of : Session → Sess
view_of s = Links.view_of_parts (parts_of s)

-- What the plans of its acts start from.
abbrev pub standing_of : Session → Standing
standing_of s = record { link = s.link; pending = s.pending.count }

-- What the view hides is as open has it.
abbrev pub Tidy : Session → Type 0
Tidy s = Links.TidyParts (parts_of s)

-- Nothing was said to it yet.
abbrev pub fresh_session : Table → ℕ → Session
fresh_session t phase = record { table = t; link = Links.fresh_link phase; pending = empty_pending }

-- What the device side hands over with a ticket, of either kind.
abbrev pub handed : Acts.Kind → (ticket status actual : ℕ) → (payload header : List ℕ) → Acts.Completion
handed kind ticket status actual payload header =
    record { ticket = ticket; status = status; actual = actual; kind = kind; payload = payload; header = header }

-- The answer of a feed's plan, with a reply of so many bytes.
abbrev pub answer_of : Plan → (length : ℕ) → Answer
answer_of r n = record { event = r.event; consumed = r.consumed; length = n; setup = r.change.urb.setup; iso = r.change.urb.iso }

-- All that a feed answers and leaves, by the code, with both buffers at exit.
abbrev pub fed_as : Fed → List ℕ → List ℕ → Result
fed_as r work reply =
    let a = r.answer in
    record {
      event = event_of a.event a.setup a.iso r.dropped;
      setup = a.setup;
      iso = a.iso;
      dropped = r.dropped;
      consumed = a.consumed;
      length = a.length;
      buffers = lent work reply;
      next = view_of r.session;
    }

-- A completion, with the header buffer at exit.
abbrev pub completed_as : Completed → List ℕ → Acts.Complete
completed_as r header = record { answer = completion_of r.answer; header = header; next = view_of r.session }

abbrev pub closed_as : Closed → Acts.Close
closed_as r = record { answer = closing_of r.answer r.dropped; next = view_of r.session }
