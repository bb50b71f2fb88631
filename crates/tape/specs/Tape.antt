-- A tape's records, each read from the bytes at the front of what is left of the tape (PROTOCOL.md, 10.1).
use Rattle.std.specs.Prelude.{◌≡◌, Option, Some, None, Result, Ok, Err, ℕ, zero, suc, ◌+◌, ◌*◌, ◌%◌, ◌^◌, ◌≤◌, cond, List, [], ◌∷◌, ◌++◌, length, take, drop, ◌==◌, nat_le, nat_lt}
use Rattle.ground.specs.Lists.{joined}
use Rattle.wire.specs.Fields.{Field, u8, u16, u32, pack, field, widths, size, Fitting}
use Rattle.limits.specs.Limits.{MAX-PACKETS}
use Rattle.results.specs.Results.{packet_result, sum}
use Rattle.results.specs.declared.PacketResult.{PacketResult}
use Rattle.tape.specs.Layout
use Rattle.tape.specs.declared.reader.Record.{Record}
use Rattle.tape.specs.declared.reader.Record.TheVariants.{Stream, Completion, Iso, Close}
use Rattle.tape.specs.declared.reader.Unread.{Unread}

-- ## A record

abbrev pub u64 : ℕ → Field
u64 x = record { width = 8; value = x }

-- What each case stands for: its mark and the fields behind it, in the order of the tape.
abbrev pub fields_of : Record → List Field
fields_of (Stream count) = u16 Layout.STREAM-MARK ∷ u16 count ∷ []
fields_of (Completion ticket status actual) = u16 Layout.COMPLETION-MARK ∷ u64 ticket ∷ u32 status ∷ u32 actual ∷ []
fields_of (Iso ticket status count) = u16 Layout.ISO-MARK ∷ u64 ticket ∷ u32 status ∷ u8 count ∷ []
fields_of Close = u16 Layout.CLOSE-MARK ∷ []

-- How many bytes follow the fields, and how many may: stream bytes, or a result for each packet.
abbrev pub count_of : Record → ℕ
count_of (Stream count) = count
count_of (Completion ticket status actual) = 0
count_of (Iso ticket status count) = count * Layout.RESULT-LEN
count_of Close = 0

abbrev pub most_of : Record → ℕ
most_of (Stream count) = Layout.MAX-COUNT
most_of (Completion ticket status actual) = 0
most_of (Iso ticket status count) = MAX-PACKETS * Layout.RESULT-LEN
most_of Close = 0

-- How many bytes a record takes.
abbrev pub length_of : Record → ℕ
length_of r = size (widths (fields_of r)) + count_of r

-- A record's bytes, with what follows the fields behind them.
abbrev pub record_bytes : Record → List ℕ → List ℕ
record_bytes r behind = pack (fields_of r) ++ behind

-- Bytes start with a record. proofs/Reading.antt shows that just these are read.
pub record Starts (bytes : List ℕ) (r : Record) : Type 0 where
  pub behind : List ℕ
  pub rest : List ℕ
  pub whole : bytes ≡ record_bytes r behind ++ rest
  pub count : length behind ≡ count_of r
  pub few : count_of r ≤ most_of r
  pub fits : Fitting (fields_of r)

-- ## Reading

-- What the first bytes of a record tell: which it is, how many bytes are needed to tell more, or that it doesn't read. Behind
-- `C>`, behind `D>`, behind `I>`, and at the front.
unfoldable pub stream_head : List ℕ → Result Record Unread
stream_head bytes =
    let count = field 2 Layout.COUNT-AT bytes in
    cond (nat_lt (length bytes) Layout.STREAM-AT) (Err (Unread.Short Layout.STREAM-AT))
    (cond (nat_lt Layout.MAX-COUNT count) (Err Unread.Bad) (Ok (Stream count)))

unfoldable pub completion_head : List ℕ → Result Record Unread
completion_head bytes =
    cond (nat_lt (length bytes) Layout.COMPLETION-LEN) (Err (Unread.Short Layout.COMPLETION-LEN))
    (Ok (Completion (field 8 Layout.TICKET-AT bytes) (field 4 Layout.STATUS-AT bytes) (field 4 Layout.ACTUAL-AT bytes)))

unfoldable pub iso_head : List ℕ → Result Record Unread
iso_head bytes =
    let count = field 1 Layout.RESULT-COUNT-AT bytes in
    cond (nat_lt (length bytes) Layout.RESULTS-AT) (Err (Unread.Short Layout.RESULTS-AT))
    (cond (nat_lt MAX-PACKETS count) (Err Unread.Bad) (Ok (Iso (field 8 Layout.TICKET-AT bytes) (field 4 Layout.STATUS-AT bytes) count)))

unfoldable pub head_of : List ℕ → Result Record Unread
head_of bytes =
    let mark = field 2 Layout.MARK-AT bytes in
    cond (nat_lt (length bytes) Layout.MARK-LEN) (Err (Unread.Short Layout.MARK-LEN))
    (cond (mark == Layout.STREAM-MARK) (stream_head bytes)
    (cond (mark == Layout.COMPLETION-MARK) (completion_head bytes)
    (cond (mark == Layout.ISO-MARK) (iso_head bytes)
    (cond (mark == Layout.CLOSE-MARK) (Ok Close) (Err Unread.Bad)))))

-- The record at the front. "A record that doesn't read": "another mark, a count too high, too few bytes".
abbrev pub read_in : ℕ → Result Record Unread → Option Record
read_in present (Ok r) = cond (nat_lt present (length_of r)) None (Some r)
read_in present (Err why) = None

abbrev pub read_of : List ℕ → Option Record
read_of bytes = read_in (length bytes) (head_of bytes)

-- The record at the front behind as many others: "a 65,537th record" doesn't read.
abbrev pub read_behind : ℕ → List ℕ → Option Record
read_behind before bytes = cond (nat_le Layout.MAX-RECORDS before) None (read_of bytes)

-- The stream bytes of a `C>` record, where all are there.
abbrev pub stream_of : ℕ → List ℕ → List ℕ
stream_of count bytes = cond (nat_lt (length bytes) (Layout.STREAM-AT + count)) [] (take count (drop Layout.STREAM-AT bytes))

-- ## The results of an `I>` record

-- Results as bytes, one straight after the other.
abbrev pub result_fields : PacketResult → List Field
result_fields r = u32 r.actual ∷ u32 r.status ∷ []

abbrev pub result_bytes : List PacketResult → List ℕ
result_bytes rs = joined (λ r. pack (result_fields r)) rs

-- The result that starts at an offset of some bytes.
abbrev pub result_at : ℕ → List ℕ → PacketResult
result_at at bytes = packet_result (field 4 at bytes) (field 4 (at + Layout.RESULT-STATUS-AT) bytes)

-- The first so many results.
abbrev pub read_results : (count : ℕ) → List ℕ → List PacketResult
read_results zero bytes = []
read_results (suc n) bytes = result_at 0 bytes ∷ read_results n (drop Layout.RESULT-LEN bytes)

-- Those of the record, where all are there and no more than there may be.
abbrev pub iso_results : (count : ℕ) → List ℕ → List PacketResult
iso_results count bytes =
    cond (nat_lt MAX-PACKETS count) []
    (cond (nat_lt (length bytes) (Layout.RESULTS-AT + count * Layout.RESULT-LEN)) [] (read_results count (drop Layout.RESULTS-AT bytes)))

-- "the total their sum modulo 2^32"
abbrev pub iso_total : List PacketResult → ℕ
iso_total rs = sum rs % 2 ^ 32

-- ## Reading piece by piece

-- How many bytes a record takes, as far as its first bytes tell; those that are there where it doesn't read.
abbrev pub wanted_in : ℕ → Result Record Unread → ℕ
wanted_in present (Ok r) = length_of r
wanted_in present (Err (Unread.Short n)) = n
wanted_in present (Err Unread.Bad) = present

abbrev pub wanted_of : List ℕ → ℕ
wanted_of bytes = wanted_in (length bytes) (head_of bytes)

-- Whatever follows these bytes, the record at their front reads alike.
abbrev pub ReadsAlike : List ℕ → Type 0
ReadsAlike bytes = (more : List ℕ) → read_of (bytes ++ more) ≡ read_of bytes
