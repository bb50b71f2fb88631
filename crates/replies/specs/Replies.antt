-- A reply to a submit, as it stands in its buffer: the 48 bytes of the header, then a descriptor for each packet.
use Rattle.std.specs.Prelude.{ℕ, List, ◌++◌}
use Rattle.messages.specs.Messages.{ret_submit}
use Rattle.messages.specs.declared.reply.RetSubmit.{RetSubmit}
use Rattle.packets.specs.declared.packet.Packet.{Packet}
use Rattle.results.specs.declared.PacketResult.{PacketResult}
use Rattle.descriptors.specs.Descriptors.{descriptors_of}

unfoldable pub submit_reply : RetSubmit → List Packet → List PacketResult → List ℕ
submit_reply r ks rs = ret_submit r ++ descriptors_of ks rs
