use mathlib.Core.Path.{◌≡◌}
use lib.ListN.{take}
use Rattle.ground.specs.Writing.{over}
use Rattle.descriptors.specs.Descriptors.{descriptors_of}
use Rattle.descriptors.proofs.write_descriptors.Given as goal

abbrev pub invariant-loop-i : goal.invariant-loop-i
invariant-loop-i l = l.out ≡ over (descriptors_of l.iso (take l.i l.results)) l.initial.out
