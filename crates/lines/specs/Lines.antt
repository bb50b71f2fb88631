-- The lines of `replay` (PROTOCOL.md, 10.2): tickets, seqnums, lengths and counts in decimal, statuses in signed decimal.
use Rattle.std.specs.Prelude.{ℕ, List, [], ◌∷◌, ◌++◌}
use Rattle.ground.specs.Lists.{joined}
use Rattle.pending.specs.Pending.{ticket_of, seqnum_of}
use Rattle.pending.specs.declared.counts.Numbers.{Numbers}
use Rattle.model.specs.Answers.{Outcome, refused, done, Returned, Event, hungry, list, import, submit, answer, unlink, break}
use Rattle.numerals.specs.Digits.{ascii, decimal, status_text}
use Rattle.numerals.specs.Texts.{line}

-- What any act prints: a refusal its number.
abbrev pub outcome_lines : {A : Type 0} → (A → List ℕ) → Outcome A → List ℕ
outcome_lines printed (refused number) = line "refused" (decimal number ∷ [])
outcome_lines printed (done a) = printed a

-- Of each ticket that was dropped.
abbrev pub dropped_line : ℕ → List ℕ
dropped_line ticket = line "dropped" (decimal ticket ∷ [])

-- Of a feed.
abbrev pub event_lines : Event → List ℕ
event_lines hungry = []
event_lines list = line "list" []
event_lines (import status) = line "import" (decimal status ∷ [])
event_lines (submit u) = line "submit" (decimal (ticket_of u) ∷ decimal (seqnum_of u) ∷ [])
event_lines (answer seqnum status) = line "answer" (decimal seqnum ∷ status_text status ∷ [])
event_lines (unlink seqnum status removed) = line "unlink" (decimal seqnum ∷ status_text status ∷ [])
event_lines (break fault tickets) = line "broken" (decimal fault.number ∷ ascii "at" ∷ decimal fault.at ∷ []) ++ joined dropped_line tickets

abbrev pub feed_lines : Outcome Event → List ℕ
feed_lines o = outcome_lines event_lines o

-- Of a completion: the ticket and the actual length that the device side handed over, and the status sent.
abbrev pub completion_lines : (ticket actual : ℕ) → Outcome Returned → List ℕ
completion_lines ticket actual o =
    outcome_lines (λ (r : Returned). line "return" (decimal ticket ∷ status_text r.status ∷ decimal actual ∷ [])) o

-- Of a close.
abbrev pub close_lines : Outcome (List ℕ) → List ℕ
close_lines o = outcome_lines (λ tickets. line "closed" [] ++ joined dropped_line tickets) o

-- The last line: accepted, pending, returned, unlinked, dropped.
abbrev pub end_line : Numbers → List ℕ
end_line n = line "end" (decimal n.accepted ∷ decimal n.pending ∷ decimal n.returned ∷ decimal n.unlinked ∷ decimal n.dropped ∷ [])

-- Of a record that doesn't read.
abbrev pub bad_tape_line : List ℕ
bad_tape_line = ascii "bad tape\n"
