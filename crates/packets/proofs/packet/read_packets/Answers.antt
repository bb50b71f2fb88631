use native.Mathlib.Omega.{arith}
use lib.ListN.{length-take}
use Rattle.packets.proofs.Reading.{read_all}
use Rattle.packets.proofs.packet.read_packets.Goals as goal

pub returns : goal.returns
returns c =
    rw c.no_packets-out.ensures
    (read_all c.loop-i.place-items c.args.count c.loop-i.i c.args.descriptors (omega (arith, length-take c.args.count c.no_packets-out.result))
    (omega (arith, length-take c.args.count c.no_packets-out.result)) c.loop-i.invariant)
