-- The inquiry for stale requests, by the book (PROTOCOL.md, 3.5).
use Rattle.std.specs.Prelude.{ℕ, ◌≤◌, ◌≡◌, ◌↔◌}
use mathlib.Core.List.{List, Memᴰ}
use Rattle.exports.specs.declared.device.Table.{Table}
use Rattle.pending.specs.Pending.{ticket_of}
use Rattle.pending.specs.declared.urb.Urb.{Urb}
use Rattle.ages.specs.Ages.{Shows}
use Rattle.ground.specs.Lists.{Rising}
use Rattle.model.specs.Answers.{Outcome, done}
use Rattle.model.specs.Acts.{stale_of}
use Rattle.model.specs.Book.{Call, Item, Book, Pending}
use Rattle.model.specs.Claims.{close_rows_by}
use Rattle.model.specs.Corollaries.{session_from, book_from, ByTable}

-- A pending item has the ticket, and its age is at least the limit: so many milliseconds, less than 2^32, after the arrival that came with the
-- feed which accepted it, the clock shows the time of the inquiry.
abbrev pub Stale : List Item → (time limit ticket : ℕ) → Type 0
Stale is time limit k = (u : Urb) × Pending is u × (ticket_of u ≡ k) × ((age : ℕ) × Shows u.arrival age time × (limit ≤ age))

-- "lists, lowest ticket first, exactly the pending tickets .. whose age .. is at least the limit; on a closed one it is refused with 3": by
-- the one row that a close has, too. It hands back no session and is lent no buffer: nothing is removed.
pub record RightInquiry (b : Book) (time limit : ℕ) (o : Outcome (List ℕ)) : Type 0 where
  pub refuses : ByTable (close_rows_by b) o
  pub rising : (ts : List ℕ) → o ≡ done ts → Rising ts
  pub exactly : (ts : List ℕ) → o ≡ done ts → (k : ℕ) → Memᴰ k ts ↔ Stale b.items time limit k

-- After every list of calls.
abbrev pub StaleListed : Type 0
StaleListed = (t : Table) (cs : List Call) (time limit : ℕ) → RightInquiry (book_from t cs) time limit (stale_of (session_from t cs) time limit)
