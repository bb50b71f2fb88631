-- A time reaches no reply (PROTOCOL.md, 3.5): two runs that differ in times only have all but the arrivals in common.
use Rattle.std.specs.Prelude.{ℕ, ◌≡◌, List, map}
use Rattle.exports.specs.declared.device.Table.{Table}
use Rattle.pending.specs.declared.urb.Urb.{Urb}
use Rattle.model.specs.State.{Sess, with_pend}
use Rattle.model.specs.Answers.{Outcome, refused, done, Event, hungry, list, import, submit, answer, unlink, break}
use Rattle.model.specs.Acts.{Buffers, feed_of, Completion, complete_of, close_of}
use Rattle.model.specs.Cut.{written}
use Rattle.model.specs.Book.{Call, feed, complete, close}
use Rattle.model.specs.Corollaries.{session_from}

-- ## With every time 0

abbrev pub untimed_urb : Urb → Urb
untimed_urb u = record { ticket = u.ticket; transfer = u.transfer; setup = u.setup; arrival = 0; iso = u.iso }

abbrev pub untimed : Sess → Sess
untimed s = with_pend (map untimed_urb s.pend) s

abbrev pub untimed_event : Event → Event
untimed_event (submit u) = submit (untimed_urb u)
untimed_event hungry = hungry
untimed_event list = list
untimed_event (import st) = import st
untimed_event (answer q st) = answer q st
untimed_event (unlink q st t) = unlink q st t
untimed_event (break f ts) = break f ts

abbrev pub untimed_outcome : Outcome Event → Outcome Event
untimed_outcome (refused n) = refused n
untimed_outcome (done e) = done (untimed_event e)

abbrev pub untimed_call : Call → Call
untimed_call (feed p lent time) = feed p lent 0
untimed_call (complete c) = complete c
untimed_call close = close

-- ## The claim

-- Two sessions differ in arrivals at most, and so does what they answer to the same call, whatever the times: the same events but for an
-- accepted record's arrival, the same bytes in every buffer, the same lengths.
pub record SameButArrivals (s z : Sess) : Type 0 where
  pub session : untimed s ≡ untimed z
  pub feeds : (lent : Buffers) (p : List ℕ) (time other : ℕ)
      → let r = feed_of s lent p time in
      let q = feed_of z lent p other in
      (untimed_outcome r.event ≡ untimed_outcome q.event)
      × (r.consumed ≡ q.consumed)
      × (r.buffers ≡ q.buffers)
      × (written s p r ≡ written z p q)
  pub completes : (c : Completion)
      → ((complete_of s c).answer ≡ (complete_of z c).answer) × ((complete_of s c).header ≡ (complete_of z c).header)
  pub closes : (close_of s).answer ≡ (close_of z).answer

-- After any two lists of calls that differ in times only.
abbrev pub TimesUnseen : Type 0
TimesUnseen = (t : Table) (cs ds : List Call) → map untimed_call cs ≡ map untimed_call ds → SameButArrivals (session_from t cs) (session_from t ds)
