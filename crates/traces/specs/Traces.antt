-- The lines that `trace` adds to those of `replay`: numbers in decimal, bytes in hexadecimal.
use Rattle.std.specs.Prelude.{ℕ, ◌+◌, ◌*◌, cond, List, [], ◌∷◌, ◌++◌, eqb, take}
use Rattle.std.proofs.Math.Option.{Option, none, some}
use Rattle.wire.specs.Codes.{HEADER-LEN, DESCRIPTOR-LEN}
use Rattle.messages.specs.Messages.{iso_count}
use Rattle.messages.specs.declared.message.Transfer.{Transfer}
use Rattle.packets.specs.declared.packet.Packet.{Packet}
use Rattle.pending.specs.declared.urb.Urb.{Urb}
use Rattle.model.specs.Answers.{Outcome, refused, done, Returned}
use Rattle.numerals.specs.Digits.{ascii, decimal, hex_of}
use Rattle.numerals.specs.Texts.{WORD-LEN, FIELD-LEN, line}

-- Bytes as a field: a dash where there is none.
abbrev pub hex_field : List ℕ → List ℕ
hex_field [] = ascii "-"
hex_field (b ∷ bs) = hex_of (b ∷ bs)

-- Of a feed: the bytes consumed, the length of the reply, and the reply.
abbrev pub feed_trace : ℕ → ℕ → List ℕ → List ℕ
feed_trace consumed length reply = line "feed" (decimal consumed ∷ decimal length ∷ hex_field reply ∷ [])

-- Of an accepted submit: its record, the data of an OUT, and an isochronous one's packets.
abbrev pub record_fields : ℕ → Transfer → List (List ℕ)
record_fields ticket t =
    decimal ticket
    ∷ decimal t.seqnum
    ∷ decimal t.direction
    ∷ decimal t.ep
    ∷ decimal t.flags
    ∷ decimal t.length
    ∷ decimal t.start
    ∷ decimal t.packets
    ∷ decimal t.interval
    ∷ []

-- The most that these take.
abbrev pub RECORD-LEN : ℕ
RECORD-LEN = WORD-LEN + 9 * FIELD-LEN

abbrev pub record_trace : Urb → List ℕ
record_trace u = line "record" (record_fields u.ticket u.transfer ++ (hex_field u.setup ∷ []))

abbrev pub data_trace : List ℕ → List ℕ
data_trace bytes = line "data" (hex_field bytes ∷ [])

-- Offset and length of each packet; no line where there is none.
abbrev pub packet_fields : List Packet → List (List ℕ)
packet_fields [] = []
packet_fields (k ∷ ks) = decimal k.offset ∷ decimal k.length ∷ packet_fields ks

abbrev pub packets_trace : (packets : ℕ) → List Packet → List ℕ
packets_trace packets iso = cond (eqb (iso_count packets) 0) [] (line "packets" (packet_fields (take (iso_count packets) iso)))

-- Of an unlink: the ticket that it removed, if it did.
abbrev pub removed_trace : Option ℕ → List ℕ
removed_trace (some ticket) = line "removed" (decimal ticket ∷ [])
removed_trace none = line "removed" (ascii "-" ∷ [])

-- Of a completion of so many packets: the length on the wire, and the header of the reply with its descriptors, or 0 and none.
abbrev pub header_trace : (packets : ℕ) → Outcome Returned → List ℕ → List ℕ
header_trace packets (done r) header = line "header" (decimal r.wire ∷ hex_field (take (HEADER-LEN + packets * DESCRIPTOR-LEN) header) ∷ [])
header_trace packets (refused number) header = line "header" (decimal 0 ∷ hex_field [] ∷ [])
