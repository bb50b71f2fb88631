-- Tapes played by the definitions: the sample tape, and how a record's stream bytes are fed.
use Prim.Native.Nat.{ℕ}
use mathlib.Core.Path.{◌≡◌, refl}
use mathlib.Core.Bool.{Bool, false}
use mathlib.Core.List.{List, [], ◌∷◌, ◌++◌, map}
use lib.ListN.{length, take, drop, replicate}
use Rattle.wire.specs.BigEndian.{bytes_of}
use Rattle.ground.specs.Lists.{joined}
use Rattle.exports.specs.Rules.{text, good_device}
use Rattle.tables.specs.Tables.{good_table}
use Rattle.records.specs.Records.{device_record}
use Rattle.importing.specs.Imports.{import_reply, import_refusal}
use Rattle.listing.specs.Lists.{listed_device, list_reply}
use Rattle.packets.specs.Judging.{packets_good}
use Rattle.results.specs.Results.{packet_result, results_fit}
use Rattle.results.specs.declared.PacketResult.{PacketResult}
use Rattle.descriptors.specs.Descriptors.{descriptors_of}
use Rattle.replies.specs.Replies.{submit_reply}
use Rattle.limits.specs.Limits
use Rattle.ground.specs.Tests.{decide, pick}
use Rattle.halving.specs.Halving.{looked, binary_digits, halved}
use Rattle.model.specs.Machine.{feed}
use Rattle.model.specs.State.{Sess}
use Rattle.model.specs.Judging.{grow, submitted, submitting, whole_header, message, requested, looked_up, request, judge}
use Rattle.model.specs.Acts.{Buffers, reply_to, put, write_reply, feed_of, complete_of, close_of, open_of}
use Rattle.feeding.specs.Feeding.{fed_of}
use Rattle.tape.specs.Tape.{record_bytes, result_bytes}
use Rattle.tape.specs.Table.{tape_table}
use Rattle.tape.specs.declared.reader.Record.{Record}
use Rattle.tape.specs.declared.reader.Record.TheVariants.{Stream, Completion, Iso, Close}
use Rattle.numerals.specs.Digits.{ascii, numeral, digits}
use Rattle.player.specs.Play.{play_stream, play_record}

-- A record and the bytes behind its fields.
record Item : Type 0 where
  what : Record
  behind : List ℕ

abbrev fed : List ℕ → Item
fed bytes = record { what = Stream (length bytes); behind = bytes }

abbrev act : Record → Item
act r = record { what = r; behind = [] }

abbrev iso_act : (ticket status : ℕ) → List PacketResult → Item
iso_act ticket status rs = record { what = Iso ticket status (length rs); behind = result_bytes rs }

-- What records print, one after the other.
abbrev shown : Bool → Sess → Buffers → List Item → List ℕ
shown traced s b [] = []
shown traced s b (i ∷ is) =
    let p = play_record traced i.what (record_bytes i.what i.behind) s b in
    p.text ++ shown traced p.next p.buffers is

abbrev printed : Bool → List Item → List ℕ
printed traced is = shown traced (open_of tape_table).next (record { work = replicate Limits.WORK-LEN 0; reply = replicate Limits.REPLY-LEN 0 }) is

abbrev words : List ℕ → List ℕ
words ws = joined (bytes_of 4) ws

abbrev list : List ℕ
list = words (0x01118005 ∷ 0 ∷ [])

abbrev import : List ℕ
import = words (0x01118003 ∷ 0 ∷ 0x312d3100 ∷ 0 ∷ 0 ∷ 0 ∷ 0 ∷ 0 ∷ 0 ∷ 0 ∷ [])

-- the kernel document's CmdIntrIN
abbrev intr_in : List ℕ
intr_in = words (1 ∷ 0xd05 ∷ 0x0001000f ∷ 1 ∷ 1 ∷ 0x200 ∷ 64 ∷ 0xffffffff ∷ 0 ∷ 4 ∷ 0 ∷ 0 ∷ [])

abbrev unlink : List ℕ
unlink = words (2 ∷ 0xd07 ∷ 0x0001000f ∷ 0 ∷ 0 ∷ 0xd05 ∷ 0 ∷ 0 ∷ 0 ∷ 0 ∷ 0 ∷ 0 ∷ [])

-- an isochronous one of 100 bytes, with packets of 20 at 10 and of 70 at 30
abbrev iso_in : List ℕ
iso_in =
    words
    (1 ∷ 0xd09 ∷ 0x0001000f ∷ 1 ∷ 1 ∷ 2 ∷ 100 ∷ 7 ∷ 2 ∷ 1 ∷ 0 ∷ 0
    ∷ 10 ∷ 20 ∷ 0 ∷ 0 ∷ 30 ∷ 70 ∷ 0 ∷ 0 ∷ [])

abbrev tapes : List (List Item)
tapes =
    (fed import ∷ fed intr_in ∷ act (Completion 1 0 64) ∷ act Close ∷ [])
    -- the rest of a record that closed the session is dropped; another is fed once, and an empty one never
    ∷ (fed (list ++ list) ∷ fed [] ∷ fed (1 ∷ []) ∷ [])
    -- several messages in a record, and one cut over two
    ∷ (fed (import ++ take 20 intr_in) ∷ fed (drop 20 intr_in ++ unlink) ∷ [])
    -- the completion of an isochronous submit: of the wrong kind, with a packet too few, and with both
    ∷ (fed import ∷ fed iso_in ∷ act (Completion 1 0 25) ∷ iso_act 1 0 (packet_result 20 0 ∷ []) ∷ iso_act 1 0 (packet_result 20 0 ∷ packet_result 5 1 ∷ []) ∷ [])
    ∷ []

pub examples :
    map (printed false) tapes
    ≡ ascii "import 0\nsubmit 1 3333\nreturn 1 0 64\nclosed\n"
    ∷ ascii "list\nrefused 3\n"
    ∷ ascii "import 0\nsubmit 1 3333\nunlink 3335 -104\n"
    ∷ ascii "import 0\nsubmit 1 3337\nrefused 6\nrefused 6\nreturn 1 0 25\n"
    ∷ []
unfolding text good_device good_table tape_table device_record listed_device list_reply import_reply import_refusal
    decide pick feed grow submitted submitting whole_header message requested looked_up request
    packets_good results_fit descriptors_of submit_reply judge reply_to put write_reply feed_of looked binary_digits halved complete_of close_of open_of fed_of numeral digits play_stream
examples = refl
