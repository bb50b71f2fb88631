-- The look-up of a device by its busid (PROTOCOL.md, 4.1): "the first device whose 32 busid bytes all match".
-- proofs/First.antt says the same with quantifiers.
use Rattle.limits.specs.Limits.{MAX-DEVICES}
use Rattle.exports.specs.Devices.{devices_of, no_device}
use Rattle.std.specs.Prelude.{ℕ, suc, ◌+◌, ◌*◌, ◌<◌, ◌≡◌, cond, Option, Some, None, List, [], ◌∷◌, ltb, length, get_or}
use Rattle.exports.specs.declared.device.Device.{Device}
use Rattle.exports.specs.declared.device.Table.{Table}
use Rattle.ground.specs.Lists.{same_bytes}

-- The place of the first device whose busid bytes all match, where the devices stand from place i on.
abbrev pub find_from : ℕ → List ℕ → List Device → Option ℕ
find_from i busid [] = None
find_from i busid (d ∷ ds) = cond (same_bytes d.busid busid) (Some i) (find_from (suc i) busid ds)

abbrev pub find_busid : List ℕ → List Device → Option ℕ
find_busid busid ds = find_from 0 busid ds

-- The look-up in a table: what stands past its count is not found.
abbrev pub find_in : Table → List ℕ → Option ℕ
find_in t busid = find_busid busid (devices_of t)

-- The device at a place of the array; past its end, the first.
abbrev pub place_in : ℕ → ℕ
place_in i = cond (ltb i MAX-DEVICES) i 0

abbrev pub device_in : Table → ℕ → Device
device_in t i = get_or t.devices (place_in i) no_device

abbrev pub devid_of : Device → ℕ
devid_of d = d.busnum * 65536 + d.devnum

abbrev pub devid_in : Table → ℕ → ℕ
devid_in t i = devid_of (device_in t i)

-- ## The same with quantifiers

-- Place i is the first whose device has the busid.
pub record FirstDevice (ds : List Device) (busid : List ℕ) (i : ℕ) : Type 0 where
  pub inside : i < length ds
  pub has : (get_or ds i no_device).busid ≡ busid
  pub before : (j : ℕ) → j < i → (get_or ds j no_device).busid ≡ busid → ⊥

-- No device has the busid.
abbrev pub NoDevice : List Device → List ℕ → Type 0
NoDevice ds busid = (i : ℕ) → i < length ds → (get_or ds i no_device).busid ≡ busid → ⊥
