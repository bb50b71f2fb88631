use Rattle.ground.specs.Lists.{joined}
use Prim.Native.Nat.{◌+◌}
use mathlib.Core.Path.{◌≡◌}
use mathlib.Core.List.{◌++◌}
use lib.ListN.{length, take, drop}
use Rattle.ground.specs.Writing.{over}
use Rattle.listing.specs.Lists.{LIST-HEAD-LEN, listed_device}
use Rattle.listing.proofs.write_list.Given as goal

abbrev pub invariant-loop-i : goal.invariant-loop-i
invariant-loop-i l =
    let front = take LIST-HEAD-LEN l.initial.reply ++ joined listed_device (take l.i l.devices) in
    (l.at + length (joined listed_device (drop l.i l.devices)) ≡ LIST-HEAD-LEN + length (joined listed_device l.devices))
    × (length front ≡ l.at) × (l.reply ≡ over front l.initial.reply) × (length l.reply ≡ length l.initial.reply)
