use Rattle.ages.proofs.Ages.{Put}
use Rattle.ages.proofs.put_stale.Given as goal

abbrev pub invariant-loop-u : goal.invariant-loop-u
invariant-loop-u l = Put l.time l.limit l.urbs l.initial.out l.u-index l.n l.out
