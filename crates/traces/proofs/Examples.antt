-- The definitions give one of each line.
use mathlib.Core.Path.{◌≡◌, refl}
use mathlib.Core.List.{List, [], ◌∷◌, ◌++◌}
use mathlib.Core.Option.{none, some}
use Rattle.packets.specs.declared.packet.Packet.{Packet}
use Rattle.packets.specs.Packets.{in_array}
use Rattle.pending.specs.declared.urb.Urb.{Urb}
use Rattle.model.specs.Answers.{refused, done}
use Rattle.numerals.specs.Digits
use Rattle.numerals.specs.Digits.{ascii}
use Rattle.traces.specs.Traces.{feed_trace, record_trace, data_trace, packets_trace, removed_trace, header_trace}

-- no two of its numbers are equal, so their order shows
abbrev urb : Urb
urb =
    record {
      ticket = 7;
      transfer = record { seqnum = 3333; direction = 1; ep = 2; flags = 512; length = 64; start = 0xffffffff; packets = 0; interval = 4 };
      setup = 0x80 ∷ 6 ∷ 0 ∷ 1 ∷ 0 ∷ 0 ∷ 0x12 ∷ 0 ∷ [];
      arrival = 9;
      iso = in_array [];
    }

-- two packets, and a blank one behind
abbrev packets : List Packet
packets = record { offset = 10; length = 20 } ∷ record { offset = 30; length = 0 } ∷ record { offset = 0; length = 0 } ∷ []

pub traces :
    feed_trace 48 0 []
    ++ record_trace urb
    ++ data_trace (0x0f ∷ 0xa0 ∷ [])
    ++ packets_trace 2 packets
    ++ packets_trace 0 packets
    ++ packets_trace 0xffffffff packets
    ++ removed_trace (some 7)
    ++ removed_trace none
    ++ header_trace 0 (done (record { wire = 112; status = 0 })) (0 ∷ 3 ∷ [])
    ++ header_trace 2 (refused 3) (0 ∷ 3 ∷ [])
    ≡ ascii "feed 48 0 -\nrecord 7 3333 1 2 512 64 4294967295 0 4 8006000100001200\ndata 0fa0\npackets 10 20 30 0\nremoved 7\nremoved -\nheader 112 0003\nheader 0 -\n"
unfolding Digits.numeral Digits.digits
traces = refl
