-- What the acts of a session answer (PROTOCOL.md, 3).
use Rattle.std.specs.Prelude.{ℕ, Bool, true, false, List}
use Rattle.std.proofs.Math.Option.{Option}
use Rattle.pending.specs.declared.urb.Urb.{Urb}
use Rattle.verdicts.specs.declared.verdict.Fault.{Fault}

-- An act is refused, with a number, or done, with what it answers then: a feed its event, a completion what is returned, a close the
-- tickets that it dropped, an inquiry those that are stale.
pub data Outcome (A : Type 0) : Type 0 where
  refused : (number : ℕ) → Outcome A
  done : A → Outcome A

-- What a URB is returned with: the length of the reply on the wire, and the status sent.
pub record Returned : Type 0 where
  pub wire : ℕ
  pub status : ℕ

-- Hungry is the rules' word for a feed that ends within a message, a break for a fault in the stream that ends the session. `answer` is to
-- a refused submit, with its seqnum; an unlink has its own seqnum and the ticket that it removed.
pub data Event : Type 0 where
  hungry : Event
  list : Event
  import : (status : ℕ) → Event
  submit : Urb → Event
  answer : (seqnum status : ℕ) → Event
  unlink : (seqnum status : ℕ) → (ticket : Option ℕ) → Event
  break : Fault → (tickets : List ℕ) → Event

abbrev pub is_hungry : Event → Bool
is_hungry hungry = true
is_hungry list = false
is_hungry (import st) = false
is_hungry (submit u) = false
is_hungry (answer q st) = false
is_hungry (unlink q st t) = false
is_hungry (break f ts) = false

abbrev pub says_nothing : Outcome Event → Bool
says_nothing (refused n) = false
says_nothing (done e) = is_hungry e
