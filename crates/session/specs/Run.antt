-- A run of the code's own sessions, and the book kept from the code's own answers.
use Rattle.std.specs.Prelude.{ℕ, ◌≡◌, Bool, true, false, Result, Ok, Err, ⊤, List, [], ◌∷◌, map}
use Rattle.exports.specs.declared.device.Table.{Table}
use Rattle.pending.specs.Pending.{tickets}
use Rattle.pending.specs.declared.list.Tickets.{Tickets}
use Rattle.model.specs.Answers.{Outcome, refused, done, Event, hungry, list, import, submit, answer, unlink, break}
use Rattle.model.specs.Acts
use Rattle.model.specs.Acts.{Buffers}
use Rattle.model.specs.Book.{Call, feed, complete, close, Entry, fed, completed, closing, Book, opened, keep, pending_of}
use Rattle.model.specs.Claims.{Holds}
use Rattle.model.specs.Corollaries.{session_from, book_from}
use Rattle.model.specs.Stale.{RightInquiry}
use Rattle.events.specs.Answers.{event_of, completion_of, closing_of, inquiry_of, tickets_of}
use Rattle.verdicts.specs.declared.verdict.Refusal.{Refusal}
use Rattle.session.specs.Views.{view_of, Tidy}
use Rattle.session.specs.Acts.{Opens, Feeds, Completes, Closes, Inquires}
use Rattle.session.specs.declared.state.Session.{Session}
use Rattle.session.specs.declared.answer.Opened.{Opened}
use Rattle.session.specs.declared.answer.Fed.{Fed}
use Rattle.session.specs.declared.answer.Completed.{Completed}
use Rattle.session.specs.declared.answer.Closed.{Closed}
use Rattle.session.specs.declared.answer.Inquired.{Inquired}

-- A call of the code, with what it handed back and left in the lent buffers.
pub data Act : Type 0 where
  feeds : (piece : List ℕ) → (entry exit : Buffers) → (time : ℕ) → Fed → Act
  completes : Acts.Completion → (header : List ℕ) → Completed → Act
  closes : Closed → Act

abbrev pub call_of : Act → Call
call_of (feeds piece entry exit time r) = feed piece entry time
call_of (completes c header r) = complete c
call_of (closes r) = close

abbrev pub entry_by : Act → Entry
entry_by (feeds piece entry exit time r) = let a = r.answer in fed piece (event_of a.event a.setup a.iso r.dropped) a.consumed
entry_by (completes c header r) = completed c.ticket (completion_of r.answer)
entry_by (closes r) = closing (closing_of r.answer r.dropped)

abbrev pub next_by : Act → Session
next_by (feeds piece entry exit time r) = r.session
next_by (completes c header r) = r.session
next_by (closes r) = r.session

-- It meets the contract of its act.
abbrev pub Meets : Session → Act → Type 0
Meets s (feeds piece entry exit time r) = Feeds s piece entry exit time r
Meets s (completes c header r) = Completes s c header r
Meets s (closes r) = Closes s r

-- "Each call gets the session as the last one left it".
abbrev pub Run : Session → List Act → Type 0
Run s [] = Unit {0}
Run s (a ∷ more) = Meets s a × Run (next_by a) more

abbrev pub last_of : Session → List Act → Session
last_of s [] = s
last_of s (a ∷ more) = last_of (next_by a) more

abbrev pub kept : Book → List Act → Book
kept b [] = b
kept b (a ∷ more) = kept (keep b (entry_by a)) more

abbrev pub is_ready : Result ⊤ Refusal → Bool
is_ready (Ok u) = true
is_ready (Err refusal) = false

-- The tickets that stand beside an answer, by the book before it: those of all that is pending beside a break and the end of a
-- session, else none.
abbrev pub pending_tickets : Book → Tickets
pending_tickets b = tickets_of (tickets (pending_of b.items))

abbrev pub beside_feed : Book → Outcome Event → Tickets
beside_feed b (done (break f ts)) = pending_tickets b
beside_feed b (done hungry) = tickets_of []
beside_feed b (done list) = tickets_of []
beside_feed b (done (import st)) = tickets_of []
beside_feed b (done (submit u)) = tickets_of []
beside_feed b (done (answer q st)) = tickets_of []
beside_feed b (done (unlink q st t)) = tickets_of []
beside_feed b (refused n) = tickets_of []

abbrev pub beside_close : Book → Outcome (List ℕ) → Tickets
beside_close b (done ts) = pending_tickets b
beside_close b (refused n) = tickets_of []

abbrev pub Beside : Book → Act → Type 0
Beside b (feeds piece entry exit time r) = let a = r.answer in r.dropped ≡ beside_feed b (event_of a.event a.setup a.iso r.dropped)
Beside b (completes c header r) = Unit {0}
Beside b (closes r) = r.dropped ≡ beside_close b (closing_of r.answer r.dropped)

abbrev pub Lists : Book → List Act → Type 0
Lists b [] = Unit {0}
Lists b (a ∷ more) = Beside b a × Lists (keep b (entry_by a)) more

-- The claim of demand 3 holds of the code's calls; the code's last session is that of the definitions, and the book kept from the
-- code's own answers is the book of the claim; the tickets beside each answer are that book's; what the view hides is blank.
pub record Follows (t : Table) (o : Opened) (acts : List Act) : Type 0 where
  pub holds : Holds (view_of o.session) (opened (is_ready o.answer)) (map call_of acts)
  pub last : view_of (last_of o.session acts) ≡ session_from t (map call_of acts)
  pub book : kept (opened (is_ready o.answer)) acts ≡ book_from t (map call_of acts)
  pub lists : Lists (opened (is_ready o.answer)) acts
  pub tidy : Tidy (last_of o.session acts)

-- Over every table, from what open hands back.
abbrev pub CodeRun : Type 0
CodeRun = (t : Table) (o : Opened) (acts : List Act) → Opens t o → Run o.session acts → Follows t o acts

-- An inquiry of the session that a run of the code leaves is right by the book kept from the code's own answers.
abbrev pub CodeInquires : Type 0
CodeInquires = (t : Table) (o : Opened) (acts : List Act) (time limit : ℕ) (r : Inquired)
    → Opens t o → Run o.session acts → Inquires (last_of o.session acts) time limit r
    → RightInquiry (kept (opened (is_ready o.answer)) acts) time limit (inquiry_of r.answer r.stale)

-- Two runs of the code after which the definitions have the same session end with the same struct.
abbrev pub SameStruct : Type 0
SameStruct = (t u : Table) (o p : Opened) (acts others : List Act)
    → Opens t o → Run o.session acts → Opens u p → Run p.session others
    → session_from t (map call_of acts) ≡ session_from u (map call_of others) → last_of o.session acts ≡ last_of p.session others

-- "nothing changes": the very session is handed back, the lent buffers are as they were, and nothing was consumed.
abbrev pub Unchanged : Session → Act → Type 0
Unchanged s (feeds piece entry exit time r) = (r.session ≡ s) × (exit ≡ entry) × (r.answer.consumed ≡ 0)
Unchanged s (completes c header r) = (r.session ≡ s) × (header ≡ c.header)
Unchanged s (closes r) = r.session ≡ s

-- An act was refused with a number.
abbrev pub RefusedWith : Act → ℕ → Type 0
RefusedWith (feeds piece entry exit time r) n = let a = r.answer in event_of a.event a.setup a.iso r.dropped ≡ refused n
RefusedWith (completes c header r) n = completion_of r.answer ≡ refused n
RefusedWith (closes r) n = closing_of r.answer r.dropped ≡ refused n

-- Of any session, also one that no run leaves.
abbrev pub CodeRefuses : Type 0
CodeRefuses = (s : Session) (a : Act) (n : ℕ) → Meets s a → RefusedWith a n → Unchanged s a
