-- A machine that reads a stream symbol by symbol, in pieces, each fed with a time. The session is its instance: symbols are bytes, the
-- lent buffers are the work and the reply buffer.
use Rattle.std.specs.Prelude.{ℕ, zero, suc, ◌+◌, Bool, true, false, cond, List, [], ◌∷◌, ◌++◌, length, drop}
use Rattle.ground.specs.Tests.{pick}

-- What a feed answers and leaves: the event, how many symbols it consumed, the buffers, the next state.
pub record Fed (St Ev B : Type 0) : Type 0 where
  pub event : Ev
  pub consumed : ℕ
  pub buffers : B
  pub next : St

-- An answer as a caller keeps it: the event, the buffers as they stood then, and the time that was given.
pub record Note (Ev T B : Type 0) : Type 0 where
  pub event : Ev
  pub buffers : B
  pub time : T

-- What a run of feeds answered, consumed and left.
pub record Ran (St Ev T B : Type 0) : Type 0 where
  pub notes : List (Note Ev T B)
  pub consumed : ℕ
  pub buffers : B
  pub next : St

-- A piece of a stream, and the time that its feeds are given.
pub record Piece (X T : Type 0) : Type 0 where
  pub symbols : List X
  pub time : T

-- ## Feeding

-- step: a symbol is taken in; put: what it does to the buffers; judge: what is to be said now; after and reply: what saying it
-- does to the state and to the buffers. An event that is quiet says nothing.
module _ {St Ev X B : Type 0} (step : St → X → St) (put : St → X → B → B) (judge : St → Ev) (after : St → Ev → St)
    (reply : St → Ev → B → B) (hungry : Ev) (quiet : Ev → Bool) where
  -- Up to the first symbol at which something is said, or all of them.
  unfoldable pub feed : St → B → List X → Fed St Ev B
  feed s b [] = record { event = hungry; consumed = 0; buffers = b; next = s }
  feed s b (x ∷ xs) =
      let r = feed (step s x) (put s x b) xs in
      let e = judge (step s x) in
      pick (quiet e)
      (record { event = r.event; consumed = suc r.consumed; buffers = r.buffers; next = r.next })
      (record { event = e; consumed = 1; buffers = reply (step s x) e (put s x b); next = after (step s x) e })

-- ## Pieces

-- Whatever feeds: a piece is fed, then its unread rest, until it is used up; nothing is fed once the state is shut.
module _ {St Ev X T B : Type 0} (feeder : St → B → List X → T → Fed St Ev B) (quiet : Ev → Bool) (shut : St → Bool) where
  abbrev pub idle : St → B → Ran St Ev T B
  idle s b = record { notes = []; consumed = 0; buffers = b; next = s }

  -- an answer, given with a time, before those of a run; a quiet one isn't kept
  abbrev pub before : T → Fed St Ev B → Ran St Ev T B → Ran St Ev T B
  before t r q =
      record {
        notes = cond (quiet r.event) q.notes (record { event = r.event; buffers = r.buffers; time = t } ∷ q.notes);
        consumed = r.consumed + q.consumed;
        buffers = q.buffers;
        next = q.next;
      }

  abbrev pub empty : List X → Bool
  empty [] = true
  empty (x ∷ xs) = false

  -- One piece; `turns` bounds the feeds, and one more than the piece has symbols is enough.
  unfoldable pub drain : ℕ → St → B → List X → T → Ran St Ev T B
  drain zero s b xs t = idle s b
  drain (suc turns) s b xs t =
      let r = feeder s b xs t in
      let rest = drop r.consumed xs in
      let q = drain turns r.next r.buffers rest t in
      pick (shut s) (idle s b) (before t r (pick (empty rest) (idle r.next r.buffers) q))

  -- All the pieces, one after the other.
  abbrev pub drain_all : St → B → List (Piece X T) → Ran St Ev T B
  drain_all s b [] = idle s b
  drain_all s b (p ∷ ps) =
      let r = drain (suc (length p.symbols)) s b p.symbols p.time in
      let q = drain_all r.next r.buffers ps in
      record { notes = r.notes ++ q.notes; consumed = r.consumed + q.consumed; buffers = q.buffers; next = q.next }
