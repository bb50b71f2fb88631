use Prim.Native.Nat.{◌+◌, ◌*◌}
use mathlib.Core.List.{◌++◌}
use lib.ListN.{take}
use Rattle.ground.specs.Lists.{joined}
use Rattle.numerals.specs.Texts.{LINE-LEN, DROPPED-LEN, text_of, TextHolds}
use Rattle.lines.specs.Lines.{dropped_line}
use Rattle.lines.proofs.replay.with_dropped.Given as goal

abbrev pub invariant-loop-ticket : goal.invariant-loop-ticket
invariant-loop-ticket l =
    TextHolds l.text (text_of l.initial.text ++ joined dropped_line (take l.ticket-index l.ticket-items)) (LINE-LEN + l.ticket-index * DROPPED-LEN)
