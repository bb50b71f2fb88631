use mathlib.Core.Path.{◌≡◌}
use lib.ListN.{take}
use Rattle.packets.specs.Packets.{packets_of}
use Rattle.packets.proofs.packet.read_packets.Given as goal

abbrev pub invariant-loop-i : goal.invariant-loop-i
invariant-loop-i l = take l.i l.place-items ≡ packets_of l.i l.descriptors
