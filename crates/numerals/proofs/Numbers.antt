-- What the libraries write are these numerals.
use Prim.Native.Nat.{ℕ, suc, ◌+◌, ◌-◌, ◌*◌, ◌/◌, ◌%◌, ◌^◌, ◌<◌}
use mathlib.Core.Path.{◌≡◌, refl, ap}
use mathlib.Core.Bool.{Bool, true, false}
use mathlib.Core.List.{List, [], ◌∷◌}
use native.Mathlib.Omega.{arith}
use borrow.Author.Tests.{lt-ltb, eqb-true}
use lib.Dec.{ltb, eqb}
use lib.ListN.{length}
use Rattle.std.proofs.Common.{w32}
use Rattle.std.specs.Prelude.{slice_index}
use Rattle.std.specs.Int.{cast_signed}
use Rattle.std.specs.Fmt
use Rattle.std.proofs.lemmas.Bool.{agree_below_at}
use Rattle.std.proofs.lemmas.Fmt.{decimal_by_steps}
use Rattle.ground.proofs.Lists.{joined_length}
use Rattle.hex.specs.Hex.{IsBytes, encode_lower, encode_with, lower_digits}
use Rattle.numerals.specs.Digits
use Rattle.numerals.proofs.Digits.{numeral-one, numeral-more}

glyph_is : (d : ℕ) → d < 10 → Digits.glyph d ≡ 48 + d
glyph_is d h = rw (lt-ltb d 10 h)

pub decimal_is : (n : ℕ) → n < 2 ^ 64 → Fmt.decimal n ≡ Digits.numeral Digits.BASE n
decimal_is n h =
    decimal_by_steps (λ m ds. ds ≡ Digits.numeral Digits.BASE m)
    (λ m l. rw (numeral-one 10 (omega arith) m l, glyph_is m l))
    (λ m ds l e. rw (e, numeral-more 10 (omega arith) m l, glyph_is (m % 10) (omega arith)))
    n h

pub status_is : (bits : ℕ) → bits < 2 ^ 32 → Fmt.signed_decimal (cast_signed w32 bits) ≡ Digits.status_text bits
status_is bits h = go (ltb bits (2 ^ 31)) refl
  where
    go : (t : Bool) → ltb bits (2 ^ 31) ≡ t → Fmt.signed_decimal (cast_signed w32 bits) ≡ Digits.status_text bits
    go true e = rw e (decimal_is bits (omega arith))
    go false e =
        let k : 2 ^ 32 - suc bits ≡ 2 ^ 32 - 1 - bits = omega arith in
        rw (e, k) (ap (λ (ds : List ℕ). 45 ∷ ds) (decimal_is (suc (2 ^ 32 - 1 - bits)) (omega arith)))

digit_is : (d : ℕ) → d < 16 → slice_index lower_digits d ≡ Digits.glyph d
digit_is d h = eqb-true _ _ (agree_below_at (λ k. eqb (slice_index lower_digits k) (Digits.glyph k)) (λ _. true) 16 d refl h)

pub hex_is : (bytes : List ℕ) → IsBytes bytes → encode_lower bytes ≡ Digits.hex_of bytes
unfolding encode_with
hex_is [] h = refl
hex_is (b ∷ bs) h = rw (digit_is (b / 16) (let l = h 0 in omega arith), digit_is (b % 16) (omega arith), hex_is bs (λ i. h (suc i)))

-- How long text in hexadecimal is.
pub hex_length : (bytes : List ℕ) → length (Digits.hex_of bytes) ≡ length bytes * 2
hex_length bytes = joined_length Digits.hex_byte 2 (λ b. refl) bytes
