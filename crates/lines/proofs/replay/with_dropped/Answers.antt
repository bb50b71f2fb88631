use borrow.Author.Rules.{rules}
use Prim.Native.Nat.{◌+◌}
use native.Mathlib.Omega.{arith}
use mathlib.Core.Path.{◌≡◌}
use mathlib.Core.List.{◌++◌}
use lib.ListN.{take, get_or}
use Rattle.ground.specs.Lists.{joined}
use Rattle.ground.proofs.Lists.{joined-more, added_twice}
use Rattle.numerals.specs.Texts.{text_of}
use Rattle.lines.specs.Lines.{dropped_line}
use Rattle.lines.proofs.replay.with_dropped.Goals as goal

pub loop-ticket-preserved : goal.loop-ticket-preserved
loop-ticket-preserved c =
    let l = c.loop-ticket in
    let tickets = take c.min-count.result c.args.dropped.tickets in
    let d = get_or tickets l.ticket-index 0 in
    let more : joined dropped_line (take l.ticket-index tickets) ++ dropped_line d ≡ joined dropped_line (take (l.ticket-index + 1) tickets) =
    joined-more dropped_line tickets l.ticket-index 0 (search rules) in
    record { text = rw (← more) (added_twice (text_of c.args.line) _ (dropped_line d) l.invariant.text c.with_drop-text.ensures.text); size = omega arith }
