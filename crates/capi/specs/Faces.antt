-- What each act owes a caller in C: there is an answer with which the act keeps its own contract (of `session`), for the same session
-- and buffers, and what is handed back is that answer as numbers.
use Rattle.std.specs.Prelude.{ℕ, ◌≡◌, List}
use Rattle.exports.specs.declared.device.Table.{Table}
use Rattle.model.specs.Acts
use Rattle.model.specs.Acts.{Buffers}
use Rattle.session.specs.Acts.{Opens, Feeds, Completes, Closes, Inquires}
use Rattle.session.specs.declared.state.Session.{Session}
use Rattle.session.specs.declared.answer.Opened.{Opened}
use Rattle.session.specs.declared.answer.Fed.{Fed}
use Rattle.session.specs.declared.answer.Completed.{Completed}
use Rattle.session.specs.declared.answer.Closed.{Closed}
use Rattle.session.specs.declared.answer.Inquired.{Inquired}
use Rattle.capi.specs.Flat.{flat_opened, flat_fed, flat_completed, flat_closed, flat_inquired}
use Rattle.capi.specs.declared.flat.FlatOpened.{FlatOpened}
use Rattle.capi.specs.declared.flat.FlatFed.{FlatFed}
use Rattle.capi.specs.declared.flat.FlatCompleted.{FlatCompleted}
use Rattle.capi.specs.declared.flat.FlatClosed.{FlatClosed}
use Rattle.capi.specs.declared.flat.FlatInquired.{FlatInquired}

pub record OpensFlat (t : Table) (r : FlatOpened) : Type 0 where
  pub answer : Opened
  pub opens : Opens t answer
  pub flat : r ≡ flat_opened answer

pub record FeedsFlat (s : Session) (piece : List ℕ) (entry exit : Buffers) (time : ℕ) (r : FlatFed) : Type 0 where
  pub answer : Fed
  pub feeds : Feeds s piece entry exit time answer
  pub flat : r ≡ flat_fed answer

pub record CompletesFlat (s : Session) (c : Acts.Completion) (header : List ℕ) (r : FlatCompleted) : Type 0 where
  pub answer : Completed
  pub completes : Completes s c header answer
  pub flat : r ≡ flat_completed answer

pub record ClosesFlat (s : Session) (r : FlatClosed) : Type 0 where
  pub answer : Closed
  pub closes : Closes s answer
  pub flat : r ≡ flat_closed answer

pub record InquiresFlat (s : Session) (time limit : ℕ) (r : FlatInquired) : Type 0 where
  pub answer : Inquired
  pub inquires : Inquires s time limit answer
  pub flat : r ≡ flat_inquired answer
