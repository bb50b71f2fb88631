-- The rules that the devices of an export table must keep (PROTOCOL.md, 3.1), one device and two, as tests that compute, and the
-- same rules with quantifiers. proofs/Good.antt shows that the two agree.
use Rattle.std.specs.Prelude.{ℕ, suc, ◌<◌, ◌≤◌, ◌≡◌, Bool, not, cond, ◌&&◌, ◌||◌, List, [], ◌∷◌, eqb, leb, ltb, length, drop, get_or}
use Rattle.ground.specs.Lists.{every, same_bytes}
use Rattle.exports.specs.declared.device.Device.{Device}
use Rattle.limits.specs.Limits.{MAX-INTERFACES, MAX-BUSNUM, MAX-DEVNUM}

-- ## Path and busid

-- Where the first zero byte stands; past the end where there is none.
abbrev pub first_zero : List ℕ → ℕ
first_zero [] = 0
first_zero (b ∷ bs) = cond (eqb b 0) 0 (suc (first_zero bs))

abbrev pub all_zero : List ℕ → Bool
all_zero bs = every (λ b. eqb b 0) bs

-- "start with a non-zero byte, contain a zero byte, and have only zeros after the first one": at any size.
unfoldable pub text : List ℕ → Bool
text bs = ltb 0 (first_zero bs) && ltb (first_zero bs) (length bs) && all_zero (drop (first_zero bs) bs)

-- ## One device

-- From low to high, both among them.
abbrev pub within : ℕ → ℕ → ℕ → Bool
within low high x = leb low x && leb x high

-- "busnum 1 to 65,535; devnum 1 to 127; .. bNumInterfaces 0 to 16. Other numbers are free."
unfoldable pub good_device : Device → Bool
good_device d =
    text d.path && text d.busid && within 1 MAX-BUSNUM d.busnum && within 1 MAX-DEVNUM d.devnum &&
    leb d.bNumInterfaces MAX-INTERFACES

-- ## Two devices

abbrev pub same_numbers : Device → Device → Bool
same_numbers d e = eqb d.busnum e.busnum && eqb d.devnum e.devnum

-- What "busids distinct" and "no two devices with equal busnum and devnum" rule out.
abbrev pub clash : Device → Device → Bool
clash d e = same_bytes d.busid e.busid || same_numbers d e

abbrev pub apart : Device → Device → Bool
apart d e = not (clash d e)

-- ## The same rules with quantifiers

pub record Text (bytes : List ℕ) : Type 0 where
  -- starts with a non-zero byte
  pub starts : get_or bytes 0 0 ≡ 0 → ⊥
  -- contains a zero byte, the first one at place `end`
  pub end : ℕ
  pub inside : end < length bytes
  pub zero : get_or bytes end 0 ≡ 0
  pub first : (j : ℕ) → j < end → get_or bytes j 0 ≡ 0 → ⊥
  -- has only zeros after it
  pub rest : (j : ℕ) → end < j → j < length bytes → get_or bytes j 0 ≡ 0

pub record DeviceRules (d : Device) : Type 0 where
  pub path : Text d.path
  pub busid : Text d.busid
  pub busnum : (1 ≤ d.busnum) × (d.busnum ≤ MAX-BUSNUM)
  pub devnum : (1 ≤ d.devnum) × (d.devnum ≤ MAX-DEVNUM)
  pub interfaces : d.bNumInterfaces ≤ MAX-INTERFACES
