-- A stream that is fed to the code in pieces: where it is cut changes nothing that the code hands back.
use Rattle.std.specs.Prelude.{ℕ, ◌+◌, ◌≡◌, true, false, cond, drop}
use mathlib.Core.List.{List, [], ◌∷◌, map, flatten}
use Rattle.packets.specs.declared.packet.Packet.{Packet}
use Rattle.pending.specs.declared.list.Tickets.{Tickets}
use Rattle.model.specs.State.{closed}
use Rattle.model.specs.Answers.{Outcome, Event, says_nothing}
use Rattle.model.specs.Acts.{Buffers}
use Rattle.model.specs.Cut.{Enough}
use Rattle.events.specs.Answers.{event_of}
use Rattle.events.specs.declared.answer.Event.{Event as Case}
use Rattle.session.specs.Views.{view_of, Tidy}
use Rattle.session.specs.Acts.{Feeds}
use Rattle.session.specs.declared.state.Session.{Session}
use Rattle.session.specs.declared.answer.Fed.{Fed}

-- A feed of the code: the time that it was given, what it handed back, and the lent buffers at exit.
pub record FeedCall : Type 0 where
  pub time : ℕ
  pub fed : Fed
  pub exit : Buffers

-- The unread rest of a piece, if there is any, comes before the other pieces.
abbrev pub rest_before : List ℕ → List (List ℕ) → List (List ℕ)
rest_before [] ps = ps
rest_before (x ∷ xs) ps = (x ∷ xs) ∷ ps

-- "the unread rest of a piece is fed next until used up, and nothing is fed once it is closed": feeds that drain the pieces, each of
-- the session and the buffers as the last one left them, and with a time of its own.
abbrev pub Drains : Session → Buffers → List (List ℕ) → List FeedCall → Type 0
Drains s b [] [] = Unit {0}
Drains s b [] (f ∷ fs) = ⊥
Drains s b (p ∷ ps) [] = closed (view_of s) ≡ true
Drains s b (p ∷ ps) (f ∷ fs) =
    (closed (view_of s) ≡ false)
    × Feeds s p b f.exit f.time f.fed
    × Drains f.fed.session f.exit (rest_before (drop f.fed.answer.consumed p) ps) fs

-- Of every answer but hungry the caller keeps all but the bytes consumed, with both buffers as they stood then and the time.
pub record Noted : Type 0 where
  pub event : Case
  pub length : ℕ
  pub setup : List ℕ
  pub iso : List Packet
  pub dropped : Tickets
  pub buffers : Buffers
  pub time : ℕ

abbrev pub event_in : FeedCall → Outcome Event
event_in f = let a = f.fed.answer in event_of a.event a.setup a.iso f.fed.dropped

abbrev pub noted_by : FeedCall → Noted
noted_by f =
    let a = f.fed.answer in
    record {
      event = a.event;
      length = a.length;
      setup = a.setup;
      iso = a.iso;
      dropped = f.fed.dropped;
      buffers = f.exit;
      time = f.time;
    }

-- What the feeds answered, consumed and left.
pub record Drained : Type 0 where
  pub notes : List Noted
  pub consumed : ℕ
  pub buffers : Buffers
  pub session : Session

abbrev pub drained : Session → Buffers → List FeedCall → Drained
drained s b [] = record { notes = []; consumed = 0; buffers = b; session = s }
drained s b (f ∷ fs) =
    let q = drained f.fed.session f.exit fs in
    record {
      notes = cond (says_nothing (event_in f)) q.notes (noted_by f ∷ q.notes);
      consumed = f.fed.answer.consumed + q.consumed;
      buffers = q.buffers;
      session = q.session;
    }

-- The times given with the last byte consumed for each message.
abbrev pub times_kept : Drained → List ℕ
times_kept d = map (λ n. n.time) d.notes

-- Pieces that make up the same bytes, fed to one tidy session with the same time at each message's last byte: the same answers with their
-- buffers, the same sum of bytes consumed, the same buffers and the same struct at the end.
abbrev pub CodeCutting : Type 0
CodeCutting = (s : Session) (b : Buffers) (ps qs : List (List ℕ)) (fs gs : List FeedCall)
    → Tidy s → Enough b → flatten ps ≡ flatten qs → Drains s b ps fs → Drains s b qs gs
    → times_kept (drained s b fs) ≡ times_kept (drained s b gs) → drained s b fs ≡ drained s b gs
