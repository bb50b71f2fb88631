-- The marks, offsets and limits of a tape (PROTOCOL.md, 10.1), each named once. The constants of src/layout.rt have the same
-- names, with `_` for `-`.
use Rattle.std.specs.Prelude.{ℕ, ◌+◌}

-- "at most 65,536 records"
abbrev pub MAX-RECORDS : ℕ
MAX-RECORDS = 65536

-- "a 2-byte big-endian count (0 to 16,944)"
abbrev pub MAX-COUNT : ℕ
MAX-COUNT = 16944

-- "16,384 zero bytes as the device's data"
abbrev pub DATA-LEN : ℕ
DATA-LEN = 16384

-- ## "Each record has a two-byte mark": `C>`, `D>`, `I>` and `X>` in ASCII

abbrev pub STREAM-MARK : ℕ
STREAM-MARK = 0x433e

abbrev pub COMPLETION-MARK : ℕ
COMPLETION-MARK = 0x443e

abbrev pub ISO-MARK : ℕ
ISO-MARK = 0x493e

abbrev pub CLOSE-MARK : ℕ
CLOSE-MARK = 0x583e

-- ## Where the fields stand, and how far a record goes

abbrev pub MARK-AT : ℕ
MARK-AT = 0

abbrev pub MARK-LEN : ℕ
MARK-LEN = 2

-- `C>`: the count, then the stream bytes.
abbrev pub COUNT-AT : ℕ
COUNT-AT = 2

abbrev pub STREAM-AT : ℕ
STREAM-AT = 4

-- `D>`: "ticket 8, status 4, actual length 4"; `I>` starts with the first two as well.
abbrev pub TICKET-AT : ℕ
TICKET-AT = 2

abbrev pub STATUS-AT : ℕ
STATUS-AT = 10

abbrev pub ACTUAL-AT : ℕ
ACTUAL-AT = 14

abbrev pub COMPLETION-LEN : ℕ
COMPLETION-LEN = 18

-- `I>`: "packet count 1 (0 to 32), then actual 4 and status 4 each".
abbrev pub RESULT-COUNT-AT : ℕ
RESULT-COUNT-AT = 14

abbrev pub RESULTS-AT : ℕ
RESULTS-AT = 15

abbrev pub RESULT-LEN : ℕ
RESULT-LEN = 8

abbrev pub RESULT-STATUS-AT : ℕ
RESULT-STATUS-AT = 4

-- The longest record, a `C>`.
abbrev pub MAX-RECORD-LEN : ℕ
MAX-RECORD-LEN = STREAM-AT + MAX-COUNT
