-- The descriptors of a reply (PROTOCOL.md, 4): offset, length, actual_length and status of each packet.
use Rattle.std.specs.Prelude.{ℕ, List, [], ◌∷◌, replicate}
use Rattle.ground.specs.Lists.{joined}
use Rattle.wire.specs.Fields.{u32, pack}
use Rattle.packets.specs.declared.packet.Packet.{Packet}
use Rattle.packets.specs.Packets.{no_packet}
use Rattle.results.specs.declared.PacketResult.{PacketResult}
use Rattle.results.specs.Results.{packet_result}

-- What a descriptor says.
pub record Described : Type 0 where
  pub packet : Packet
  pub result : PacketResult

abbrev pub described : Packet → PacketResult → Described
described k r = record { packet = k; result = r }

-- Its 16 bytes.
abbrev pub descriptor : Described → List ℕ
descriptor d =
    pack (u32 d.packet.offset ∷ u32 d.packet.length ∷ u32 d.result.actual ∷ u32 d.result.status ∷ [])

-- A packet for each result. (What has no packet has a blank one.)
abbrev pub paired : List Packet → List PacketResult → List Described
paired ks [] = []
paired [] (r ∷ rs) = described no_packet r ∷ paired [] rs
paired (k ∷ ks) (r ∷ rs) = described k r ∷ paired ks rs

-- The descriptors of a reply, one straight after the other.
unfoldable pub descriptors_of : List Packet → List PacketResult → List ℕ
descriptors_of ks rs = joined descriptor (paired ks rs)

-- "A refused submit's reply sends its descriptors back with actual_length 0 and the reply's status".
abbrev pub refused_results : (count status : ℕ) → List PacketResult
refused_results count status = replicate count (packet_result 0 status)
