use Rattle.pending.proofs.Halving.{Halving}
use Rattle.pending.proofs.look.halve.Given as goal

abbrev pub invariant-loop-at : goal.invariant-loop-at
invariant-loop-at l = Halving l.ticket l.urbs l.left l.s

abbrev pub decreases-loop-at : goal.decreases-loop-at
decreases-loop-at l = l.left
