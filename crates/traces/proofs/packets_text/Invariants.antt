use Prim.Native.Nat.{◌+◌, ◌*◌, ◌≤◌}
use mathlib.Core.Path.{◌≡◌}
use lib.ListN.{drop}
use Rattle.numerals.specs.Digits.{ascii}
use Rattle.numerals.specs.Texts.{WORD-LEN, FIELD-LEN, fields, text_of}
use Rattle.traces.specs.Traces.{packet_fields}
use Rattle.traces.proofs.packets_text.Given as goal

-- the packets that are left give the whole text
abbrev pub invariant-loop-packet : goal.invariant-loop-packet
invariant-loop-packet l =
    (l.text.len ≤ WORD-LEN + l.packet-index * (2 * FIELD-LEN))
    × (fields (text_of l.text) (packet_fields (drop l.packet-index l.packets)) ≡ fields (ascii "packets") (packet_fields l.packets))
