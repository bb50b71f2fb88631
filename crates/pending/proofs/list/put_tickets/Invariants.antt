use Rattle.std.proofs.Common.{◌≡◌, take}
use Rattle.ground.specs.Writing.{over}
use Rattle.pending.specs.Pending.{tickets}
use Rattle.pending.proofs.list.put_tickets.Given as goal

abbrev pub invariant-loop-i : goal.invariant-loop-i
invariant-loop-i l = l.out ≡ over (tickets (take l.i l.urbs)) l.initial.out
