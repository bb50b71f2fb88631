use Rattle.std.proofs.Common.{◌≤◌, ◌≡◌, length}
use Rattle.console.proofs.play_records.Given as goal

-- the window lies in the input, and the lines in the output
abbrev pub invariant-loop-n : goal.invariant-loop-n
invariant-loop-n g l =
    (l.window.at ≤ l.window.end)
    × (l.window.end ≤ length l.input)
    × (l.len ≤ length l.out)
    × (length l.input ≡ length l.initial.input)
