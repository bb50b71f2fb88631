-- The rules that an export table must keep (PROTOCOL.md, 3.1), as a test that computes, and the same rules with quantifiers.
-- proofs/Good.antt shows that the two agree.
use Rattle.std.specs.Prelude.{ℕ, ◌<◌, ◌≤◌, ◌≡◌, Bool, true, ◌&&◌, List, [], ◌∷◌, leb, length, get_or}
use Rattle.exports.specs.declared.device.Device.{Device}
use Rattle.exports.specs.declared.device.Table.{Table}
use Rattle.limits.specs.Limits.{MAX-DEVICES}
use Rattle.exports.specs.Devices.{no_device, devices_of}
use Rattle.ground.specs.Lists.{every}
use Rattle.exports.specs.Rules.{good_device, apart, DeviceRules}

-- Each element and each later one, not only the next.
abbrev pub pairwise : {A : Type 0} → (A → A → Bool) → List A → Bool
pairwise p [] = true
pairwise p (x ∷ xs) = every (p x) xs && pairwise p xs

abbrev pub distinct : List Device → Bool
distinct ds = pairwise apart ds

-- "At most 16 devices" is a rule on the count itself, which nothing cuts down before. What stands past it is free.
unfoldable pub good_table : Table → Bool
good_table t = leb t.count MAX-DEVICES && every good_device (devices_of t) && distinct (devices_of t)

-- ## The same rules with quantifiers

-- How many devices a table has, and which one stands at a place.
abbrev pub device_count : Table → ℕ
device_count t = length (devices_of t)

abbrev pub device_at : Table → ℕ → Device
device_at t i = get_or (devices_of t) i no_device

pub record Rules (t : Table) : Type 0 where
  pub few : t.count ≤ MAX-DEVICES
  pub each : (i : ℕ) → i < device_count t → DeviceRules (device_at t i)
  pub busids : (i j : ℕ) → i < j → j < device_count t → (device_at t i).busid ≡ (device_at t j).busid → ⊥
  pub numbers : (i j : ℕ) → i < j → j < device_count t
      → ((device_at t i).busnum ≡ (device_at t j).busnum) × ((device_at t i).devnum ≡ (device_at t j).devnum) → ⊥
