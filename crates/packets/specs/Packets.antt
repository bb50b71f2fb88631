-- The packets that a submit's descriptors say (PROTOCOL.md, 4): offset and length of each; a request's other 8 bytes are read over.
use Rattle.std.specs.Prelude.{ℕ, zero, suc, ◌+◌, ◌-◌, List, [], ◌∷◌, ◌++◌, length, drop, get_or, replicate}
use Rattle.wire.specs.Codes
use Rattle.wire.specs.Fields.{field}
use Rattle.limits.specs.Limits.{MAX-PACKETS}
use Rattle.packets.specs.declared.packet.Packet.{Packet}

-- What stands in a place that no packet has.
abbrev pub no_packet : Packet
no_packet = record { offset = 0; length = 0 }

-- The packet at a place of a list.
abbrev pub packet_in : List Packet → ℕ → Packet
packet_in ks i = get_or ks i no_packet

-- The packet whose descriptor starts at an offset of some bytes.
abbrev pub packet_at : ℕ → List ℕ → Packet
packet_at at bytes = record { offset = field 4 (at + Codes.PACKET-OFFSET-AT) bytes; length = field 4 (at + Codes.PACKET-LENGTH-AT) bytes }

-- The packets of the first so many descriptors.
abbrev pub packets_of : (count : ℕ) → List ℕ → List Packet
packets_of zero bytes = []
packets_of (suc n) bytes = packet_at 0 bytes ∷ packets_of n (drop Codes.DESCRIPTOR-LEN bytes)

-- As the array of a record has them: blank places behind.
abbrev pub in_array : List Packet → List Packet
in_array ks = ks ++ replicate (MAX-PACKETS - length ks) no_packet
