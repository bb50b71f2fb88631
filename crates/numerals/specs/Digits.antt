-- Numbers as text in ASCII, and what a reader makes of digits.
use Rattle.std.specs.Prelude.{ℕ, zero, suc, ◌+◌, ◌-◌, ◌*◌, ◌/◌, ◌%◌, ◌<◌, ◌≡◌, cond, List, [], ◌∷◌, ◌++◌, map, ltb, get_or, ℤ, pos, negsuc}
use Prim.Native.Char.{code}
use Rattle.wire.specs.Status.{signed_of}
use Rattle.ground.specs.Lists.{joined}
-- The codes of a text's characters.
pub use Rattle.std.specs.Prelude.{codes as ascii}

-- ## Writing

-- The character of a digit below 16: 0 to 9, then a to f.
abbrev pub glyph : ℕ → ℕ
glyph d = cond (ltb d 10) (code "0" + d) (code "a" + (d - 10))

-- The digits of n in a base, the most significant first and no zero before it; at most so many behind the first.
abbrev pub digits_within : ℕ → ℕ → ℕ → List ℕ
digits_within zero base n = n ∷ []
digits_within (suc k) base n = let more = digits_within k base (n / base) ++ (n % base ∷ []) in cond (ltb n base) (n ∷ []) more

-- No number n has more than n digits behind its first.
unfoldable pub digits : ℕ → ℕ → List ℕ
digits base n = digits_within n base n

-- As text.
unfoldable pub numeral : ℕ → ℕ → List ℕ
numeral base n = map glyph (digits base n)

abbrev pub BASE : ℕ
BASE = 10

abbrev pub decimal : ℕ → List ℕ
decimal n = numeral BASE n

-- The most digits that a number of 64 bits has.
abbrev pub MAX-DIGITS : ℕ
MAX-DIGITS = 20

abbrev pub signed : ℤ → List ℕ
signed (pos n) = decimal n
signed (negsuc n) = ascii "-" ++ decimal (suc n)

-- A status, of which code and wire hold the 32 bits.
abbrev pub status_text : ℕ → List ℕ
status_text bits = signed (signed_of bits)

-- Two digits for each byte, the high one first.
abbrev pub hex_byte : ℕ → List ℕ
hex_byte b = glyph (b / 16) ∷ glyph (b % 16) ∷ []

abbrev pub hex_of : List ℕ → List ℕ
hex_of bytes = joined hex_byte bytes

-- ## Reading

-- The digit that a character is.
abbrev pub digit_of : ℕ → ℕ
digit_of c = cond (ltb c (code "a")) (c - code "0") (c - code "a" + 10)

-- The number that digits behind another number make with it, and that they make by themselves.
abbrev pub value_from : ℕ → ℕ → List ℕ → ℕ
value_from base n [] = n
value_from base n (d ∷ ds) = value_from base (n * base + d) ds

abbrev pub value_of : ℕ → List ℕ → ℕ
value_of base ds = value_from base 0 ds

abbrev pub Below : ℕ → List ℕ → Type 0
Below base [] = Unit
Below base (d ∷ ds) = (d < base) × Below base ds

-- Digits are how a number is written in a base: they make the number, each is below the base, and the first isn't 0, but for
-- the number 0, which is the one digit 0.
pub record Written (base n : ℕ) (ds : List ℕ) : Type 0 where
  pub value : value_of base ds ≡ n
  pub below : Below base ds
  pub first : 0 < n → 0 < get_or ds 0 0
  pub zero : n ≡ 0 → ds ≡ 0 ∷ []
