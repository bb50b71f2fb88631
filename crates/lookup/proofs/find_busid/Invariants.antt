use Prim.Native.Nat.{◌-◌}
use mathlib.Core.Path.{◌≡◌}
use lib.ListN.{length, drop}
use Rattle.ground.specs.Lists.{same_bytes}
use Rattle.lookup.specs.Lookup.{find_from, find_busid}
use Rattle.lookup.proofs.find_busid.Given as goal

abbrev pub invariant-loop-j : goal.invariant-loop-j
invariant-loop-j l = (l.i ≡ l.initial.i) × (same_bytes l.id l.busid ≡ same_bytes (drop l.j l.id) (drop l.j l.busid))

abbrev pub invariant-devices : goal.invariant-devices
invariant-devices l = find_busid l.busid l.devices ≡ find_from l.i l.busid (drop l.i l.devices)

abbrev pub decreases-devices : goal.decreases-devices
decreases-devices l = length l.devices - l.i
