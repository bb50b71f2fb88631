-- What each act owes its caller: the contracts of src/act.rt, of which a run of the code is made, too. What an act says is what
-- the definitions say; a refusal hands back the very session; a tidy session stays tidy.
use Rattle.std.specs.Prelude.{ℕ, ◌≡◌, Err, List}
use Rattle.exports.specs.declared.device.Table.{Table}
use Rattle.model.specs.Acts
use Rattle.model.specs.Acts.{Buffers, open_of, complete_of, close_of, stale_of}
use Rattle.events.specs.Answers.{open_answer, inquiry_of, tickets_of, listed_by}
use Rattle.events.specs.declared.answer.Event.TheVariants.{Refused}
use Rattle.verdicts.specs.declared.verdict.Refusal.{Refusal}
use Rattle.feeding.specs.Feeding.{fed_of}
use Rattle.session.specs.Views.{view_of, fed_as, completed_as, closed_as, Tidy}
use Rattle.session.specs.declared.state.Session.{Session}
use Rattle.session.specs.declared.answer.Opened.{Opened}
use Rattle.session.specs.declared.answer.Fed.{Fed}
use Rattle.session.specs.declared.answer.Completed.{Completed}
use Rattle.session.specs.declared.answer.Closed.{Closed}
use Rattle.session.specs.declared.answer.Inquired.{Inquired}

pub record Opens (t : Table) (r : Opened) : Type 0 where
  pub answer : r.answer ≡ open_answer (open_of t).good
  pub next : view_of r.session ≡ (open_of t).next
  pub tidy : Tidy r.session

-- A feed, with the lent buffers at entry and at exit and the time that was given.
pub record Feeds (s : Session) (piece : List ℕ) (entry exit : Buffers) (time : ℕ) (r : Fed) : Type 0 where
  pub said : fed_as r exit.work exit.reply ≡ fed_of (view_of s) entry piece time
  pub same : (number : ℕ) → r.answer.event ≡ Refused number → r.session ≡ s
  pub tidy : Tidy s → Tidy r.session

-- A completion, with the header buffer at exit.
pub record Completes (s : Session) (c : Acts.Completion) (header : List ℕ) (r : Completed) : Type 0 where
  pub said : completed_as r header ≡ complete_of (view_of s) c
  pub same : (refusal : Refusal) → r.answer ≡ Err refusal → r.session ≡ s
  pub tidy : Tidy s → Tidy r.session

-- A close, with the tickets beside its answer.
pub record Closes (s : Session) (r : Closed) : Type 0 where
  pub said : closed_as r ≡ close_of (view_of s)
  pub dropped : r.dropped ≡ tickets_of (listed_by (close_of (view_of s)).answer)
  pub same : (refusal : Refusal) → r.answer ≡ Err refusal → r.session ≡ s
  pub tidy : Tidy s → Tidy r.session

-- An inquiry, with the tickets beside its answer. It hands back no session.
pub record Inquires (s : Session) (time limit : ℕ) (r : Inquired) : Type 0 where
  pub said : inquiry_of r.answer r.stale ≡ stale_of (view_of s) time limit
  pub listed : r.stale ≡ tickets_of (listed_by (stale_of (view_of s) time limit))
