-- The digits are right.
use Prim.Native.Nat.{ℕ, zero, suc, ◌+◌, ◌-◌, ◌*◌, ◌/◌, ◌%◌, ◌≤◌, ◌<◌}
use mathlib.Core.Path.{◌≡◌, refl, ◌∙◌}
use mathlib.Core.Bool.{Bool, true, false}
use mathlib.Core.List.{List, [], ◌∷◌, ◌++◌, map, map-append}
use native.Mathlib.Omega.{arith}
use native.Mathlib.Nat.{div-lt_self, div-add-mod', mod-lt, le-div_iff_mul-le}
use borrow.Author.Tests.{ltb-true, ltb-false, lt-ltb, le-ltb}
use lib.Dec.{ltb}
use lib.ListN.{get_or}
use Rattle.wire.specs.Codes.{ENODEV}
use Rattle.wire.specs.Status.{minus}
use Rattle.numerals.specs.Digits

module _ (b : ℕ) (two : 2 ≤ b) where
  -- any bound that suffices gives the same digits
  same-within : (j k n : ℕ) → n ≤ j → n ≤ k → Digits.digits_within j b n ≡ Digits.digits_within k b n
  same-within zero zero n p q = refl
  same-within zero (suc k) n p q = rw (lt-ltb n b (omega arith))
  same-within (suc j) zero n p q = rw (lt-ltb n b (omega arith))
  same-within (suc j) (suc k) n p q = go (ltb n b) refl (same-within j k (n / b))
    where
      go : (t : Bool) → ltb n b ≡ t → (n / b ≤ j → n / b ≤ k → Digits.digits_within j b (n / b) ≡ Digits.digits_within k b (n / b))
          → Digits.digits_within (suc j) b n ≡ Digits.digits_within (suc k) b n
      go true e h = rw e
      go false e h = let l : n / b < n = div-lt_self {n = n} {k = b} (omega (arith, ltb-false n b e)) two in rw (e, h (omega arith) (omega arith))

  one-within : (k n : ℕ) → n < b → Digits.digits_within k b n ≡ n ∷ []
  one-within zero n h = refl
  one-within (suc k) n h = rw (lt-ltb n b h)

  pub digits-one : (n : ℕ) → n < b → Digits.digits b n ≡ n ∷ []
  unfolding Digits.digits
  digits-one n h = one-within n n h

  pub digits_more : (n : ℕ) → b ≤ n → Digits.digits b n ≡ Digits.digits b (n / b) ++ (n % b ∷ [])
  unfolding Digits.digits
  digits_more zero h = absurd (omega arith)
  digits_more (suc m) h =
      let l : suc m / b < suc m = div-lt_self {n = suc m} {k = b} (omega arith) two in
      rw (le-ltb (suc m) b h, same-within m (suc m / b) (suc m / b) (omega arith) (omega arith))

  -- ## They are right

  value-more : (a d : ℕ) (ds : List ℕ) → Digits.value_from b a (ds ++ (d ∷ [])) ≡ Digits.value_from b a ds * b + d
  value-more a d [] = refl
  value-more a d (x ∷ ds) = value-more (a * b + x) d ds

  below_more : (ds : List ℕ) (d : ℕ) → Digits.Below b ds → d < b → Digits.Below b (ds ++ (d ∷ []))
  below_more [] d h l = (l, tt)
  below_more (x ∷ ds) d h l = (h.0, below_more ds d h.1 l)

  first_more : (ds : List ℕ) (d : ℕ) → 0 < get_or ds 0 0 → 0 < get_or (ds ++ (d ∷ [])) 0 0
  first_more [] d h = absurd (omega arith)
  first_more (x ∷ ds) d h = h

  right-one : (n : ℕ) → n < b → Digits.Written b n (n ∷ [])
  right-one n h = record { value = omega arith; below = (h, tt); first = λ p. p; zero = λ e. rw e }

  right-more : (n : ℕ) → b ≤ n → Digits.Written b (n / b) (Digits.digits b (n / b)) → Digits.Written b n (Digits.digits b (n / b) ++ (n % b ∷ []))
  right-more n h w =
      record {
        value = value-more 0 (n % b) (Digits.digits b (n / b)) ∙ rw w.value (div-add-mod' n b);
        below = below_more (Digits.digits b (n / b)) (n % b) w.below (mod-lt n {m = b} (omega arith));
        first = λ p. first_more (Digits.digits b (n / b)) (n % b) (w.first ((le-div_iff_mul-le {k = b} {x = 1} {y = n} (omega arith)).1 (omega arith)));
        zero = λ e. absurd (omega arith);
      }

  right-within : (k n : ℕ) → n ≤ k → Digits.Written b n (Digits.digits b n)
  right-within zero n h = rw (digits-one n (omega arith)) (right-one n (omega arith))
  right-within (suc k) n h = go (ltb n b) refl (right-within k (n / b))
    where
      go : (t : Bool) → ltb n b ≡ t → (n / b ≤ k → Digits.Written b (n / b) (Digits.digits b (n / b))) → Digits.Written b n (Digits.digits b n)
      go true e w = let l = ltb-true n b e in rw (digits-one n l) (right-one n l)
      go false e w =
          let l = ltb-false n b e in
          let s : n / b < n = div-lt_self {n = n} {k = b} (omega arith) two in
          rw (digits_more n l) (right-more n l (w (omega arith)))

  pub digits-right : (n : ℕ) → Digits.Written b n (Digits.digits b n)
  digits-right n = right-within n n (omega arith)

  -- ## As text

  pub numeral-one : (n : ℕ) → n < b → Digits.numeral b n ≡ Digits.glyph n ∷ []
  unfolding Digits.numeral
  numeral-one n h = rw (digits-one n h)

  pub numeral-more : (n : ℕ) → b ≤ n → Digits.numeral b n ≡ Digits.numeral b (n / b) ++ (Digits.glyph (n % b) ∷ [])
  unfolding Digits.numeral
  numeral-more n h = rw (digits_more n h) (map-append Digits.glyph (Digits.digits b (n / b)) (n % b ∷ []))

-- a reader takes a character for the digit that it was written for
digit_glyph : (d : ℕ) → d < 16 → Digits.digit_of (Digits.glyph d) ≡ d
digit_glyph d h = go (ltb d 10) refl
  where
    go : (t : Bool) → ltb d 10 ≡ t → Digits.digit_of (Digits.glyph d) ≡ d
    go true e = rw (e, lt-ltb (48 + d) 97 (omega (arith, ltb-true d 10 e))) (omega arith)
    go false e = rw (e, le-ltb (97 + (d - 10)) 97 (omega arith)) (omega (arith, ltb-false d 10 e))

digits_glyphs : (b : ℕ) → b ≤ 16 → (ds : List ℕ) → Digits.Below b ds → map Digits.digit_of (map Digits.glyph ds) ≡ ds
digits_glyphs b h [] l = refl
digits_glyphs b h (d ∷ ds) l = rw (digit_glyph d (omega (arith, l.0)), digits_glyphs b h ds l.1)

-- Read as digits of the base, a numeral is how its number is written.
pub numeral-right : (b : ℕ) → 2 ≤ b → b ≤ 16 → (n : ℕ) → Digits.Written b n (map Digits.digit_of (Digits.numeral b n))
unfolding Digits.numeral
numeral-right b two h n = let w = digits-right b two n in rw (digits_glyphs b h (Digits.digits b n) w.below) w

pub decimal-right : (n : ℕ) → Digits.Written 10 n (map Digits.digit_of (Digits.decimal n))
decimal-right n = numeral-right 10 (omega arith) (omega arith) n

-- The two digits of a byte make the byte.
pub hex_right : (x : ℕ) → x < 256 → Digits.value_of 16 (map Digits.digit_of (Digits.hex_byte x)) ≡ x
hex_right x h = rw (digit_glyph (x / 16) (omega arith), digit_glyph (x % 16) (omega arith)) (omega arith)

-- A status has a sign exactly if it is below 0, here by computation.
pub statuses : Digits.status_text (minus ENODEV) ++ Digits.ascii " " ++ Digits.status_text 0 ++ Digits.ascii " " ++ Digits.status_text 64 ≡ Digits.ascii "-19 0 64"
unfolding Digits.numeral Digits.digits
statuses = refl
