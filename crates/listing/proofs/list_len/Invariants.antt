use Rattle.ground.specs.Lists.{every, joined}
use Prim.Native.Nat.{◌≤◌, ◌+◌, ◌*◌}
use mathlib.Core.Path.{◌≡◌}
use lib.ListN.{length, drop}
use Rattle.listing.specs.Lists.{LIST-HEAD-LEN, few, listed_device, MAX-LISTED}
use Rattle.listing.proofs.list_len.Given as goal

abbrev pub invariant-loop-d : goal.invariant-loop-d
invariant-loop-d l =
    let left = drop l.d-index l.devices in
    (every few l.devices ≡ every few left)
    × (l.len + length (joined listed_device left) ≡ LIST-HEAD-LEN + length (joined listed_device l.devices))
    × (l.len ≤ LIST-HEAD-LEN + l.d-index * MAX-LISTED)
