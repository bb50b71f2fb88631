-- The numbers of refusals and of faults (PROTOCOL.md, 5 and 6).
use Rattle.std.specs.Prelude.{ℕ, Result, Ok, Err, List, [], ◌∷◌}
use Rattle.ground.specs.Tests.{Test, test}
use Rattle.limits.specs.Limits
use Rattle.verdicts.specs.declared.verdict.Refusal.{Refusal}
use Rattle.verdicts.specs.declared.verdict.Refusal.TheVariants.{ShortBuffer, BadTable, SessionClosed, NotPending, StatusAbove0, Misfit, ShortData}
use Rattle.verdicts.specs.declared.verdict.FaultKind.{FaultKind}
use Rattle.verdicts.specs.declared.verdict.FaultKind.TheVariants.{BadVersion, BadCode, BadCommand, BadDirection, BadLength, BadPackets, SeqnumPending, DirtyPadding, BadDevid}

abbrev pub refusal_number : Refusal → ℕ
refusal_number ShortBuffer = Limits.SHORT-BUFFER
refusal_number BadTable = Limits.BAD-TABLE
refusal_number SessionClosed = Limits.SESSION-CLOSED
refusal_number NotPending = Limits.NOT-PENDING
refusal_number StatusAbove0 = Limits.STATUS-ABOVE-0
refusal_number Misfit = Limits.MISFIT
refusal_number ShortData = Limits.SHORT-DATA

abbrev pub fault_number : FaultKind → ℕ
fault_number BadVersion = Limits.BAD-VERSION
fault_number BadCode = Limits.BAD-CODE
fault_number BadCommand = Limits.BAD-COMMAND
fault_number BadDirection = Limits.BAD-DIRECTION
fault_number BadLength = Limits.BAD-LENGTH
fault_number BadPackets = Limits.BAD-PACKETS
fault_number SeqnumPending = Limits.SEQNUM-PENDING
fault_number DirtyPadding = Limits.DIRTY-PADDING
fault_number BadDevid = Limits.BAD-DEVID

-- An answer whose refusal is given as its number.
abbrev pub by_number : {A : Type 0} → Result A Refusal → Result A ℕ
by_number (Ok a) = Ok a
by_number (Err r) = Err (refusal_number r)

-- A table of tests whose answers are given as numbers.
abbrev pub numbered : {A : Type 0} → (A → ℕ) → List (Test A) → List (Test ℕ)
numbered f [] = []
numbered f (t ∷ ts) = test (f t.answer) t.holds ∷ numbered f ts
