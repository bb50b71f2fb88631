-- Lines, and the text that the code puts together by value.
use Rattle.std.specs.Prelude.{ℕ, ◌+◌, ◌*◌, ◌≤◌, max, ◌≡◌, List, [], ◌∷◌, ◌++◌, take}
use Prim.Native.String.{String}
use Rattle.limits.specs.Limits.{MAX-PENDING, MAX-PACKETS}
use Rattle.numerals.specs.Digits.{MAX-DIGITS, ascii}
use Rattle.numerals.specs.declared.text.Text.{Text}

-- A text with more fields, each behind a space.
abbrev pub fields : List ℕ → List (List ℕ) → List ℕ
fields text [] = text
fields text (f ∷ fs) = fields (text ++ (ascii " " ++ f)) fs

-- A word, its fields, and a newline.
abbrev pub line_of : List ℕ → List (List ℕ) → List ℕ
line_of word fs = fields word fs ++ ascii "\n"

abbrev pub line : String → List (List ℕ) → List ℕ
line word fs = line_of (ascii word) fs

-- The most that a word takes; a field, with a space and a sign before the digits; a line that isn't traced; a line of a dropped ticket.
abbrev pub WORD-LEN : ℕ
WORD-LEN = 8

abbrev pub FIELD-LEN : ℕ
FIELD-LEN = 2 + MAX-DIGITS

abbrev pub LINE-LEN : ℕ
LINE-LEN = WORD-LEN + 5 * FIELD-LEN + 1

abbrev pub DROPPED-LEN : ℕ
DROPPED-LEN = WORD-LEN + FIELD-LEN + 1

-- A line and those of all that can be dropped; a line of all packets, two fields each.
abbrev pub DROPS-LEN : ℕ
DROPS-LEN = LINE-LEN + MAX-PENDING * DROPPED-LEN

abbrev pub PACKETS-LEN : ℕ
PACKETS-LEN = WORD-LEN + MAX-PACKETS * (2 * FIELD-LEN) + 1

-- The most that a text holds: the longer of them.
abbrev pub TEXT-LEN : ℕ
TEXT-LEN = max DROPS-LEN PACKETS-LEN

-- The bytes that it has so far.
unfoldable pub text_of : Text → List ℕ
text_of t = take t.len t.bytes

-- It holds these bytes, and no more than so many.
pub record TextHolds (t : Text) (bytes : List ℕ) (most : ℕ) : Type 0 where
  pub text : text_of t ≡ bytes
  pub size : t.len ≤ most

-- So many more fit.
abbrev pub HasRoom : Text → ℕ → Type 0
HasRoom t n = t.len + n ≤ TEXT-LEN

-- A text became one with these bytes behind it, which are no more than so many.
abbrev pub Adds : (t longer : Text) → (bytes : List ℕ) → (most : ℕ) → Type 0
Adds t longer bytes most = TextHolds longer (text_of t ++ bytes) (t.len + most)
