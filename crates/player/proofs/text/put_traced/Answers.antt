use native.Mathlib.Omega.{arith}
use mathlib.Core.List.{[]}
use Rattle.pending.specs.Pending.{listing}
use Rattle.player.proofs.Puts.{puts_wrote, puts_next}
use Rattle.player.proofs.text.put_traced.Goals as goal

-- what goes with the event, behind the first line
event_put : goal.returns
event_put c ts =
    puts_next (rw c.front.ensures at (puts_wrote _ _ _ _ c.trace_feed-n.ensures)) (c.put_beside.ensures ts) c.trace_feed-n.auto.out
    c.put_beside.auto.out

pub overflow_add-result : goal.overflow_add-result
overflow_add-result c = omega (arith, (event_put c (listing [])).within)

pub returns : goal.returns
returns c ts = event_put c ts
