use Rattle.packets.proofs.Walk.{Left}
use Rattle.packets.proofs.judging.packets_good.Given as goal

abbrev pub invariant-loop-p : goal.invariant-loop-p
invariant-loop-p l = Left l.direction l.length l.packets l.last l.p-index
