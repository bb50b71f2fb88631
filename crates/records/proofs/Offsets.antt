-- Where each field stands in a record, computed on a device whose fields all differ.
use mathlib.Core.Path.{◌≡◌, refl}
use mathlib.Core.List.{[], ◌∷◌}
use lib.ListN.{length, drop, get_or, replicate}
use Rattle.limits.specs.Limits.{MAX-INTERFACES}
use Rattle.exports.specs.declared.device.Device.{Device}
use Rattle.records.specs.Records.{device_record}
use Rattle.records.proofs.Records.{no_interface}

-- A device whose fields all differ.
unfoldable pub sample : Device
sample =
    record {
      path = 0x2f ∷ replicate 255 0;
      busid = 0x31 ∷ replicate 31 0;
      busnum = 0x01020304;
      devnum = 0x05060708;
      speed = 0x090a0b0c;
      idVendor = 0x0d0e;
      idProduct = 0x0f10;
      bcdDevice = 0x1112;
      bDeviceClass = 0x13;
      bDeviceSubClass = 0x14;
      bDeviceProtocol = 0x15;
      bConfigurationValue = 0x16;
      bNumConfigurations = 0x17;
      bNumInterfaces = 0x02;
      interfaces = replicate MAX-INTERFACES no_interface;
    }

-- Offsets as in source document 000's tables, but for bDeviceClass, which the lengths put 0x132 behind the record's start, and
-- so bNumInterfaces 0x137 behind it.
pub record_layout : let r = device_record sample in
    (length r ≡ 312)
    × (get_or r 0x100 0 ≡ 0x31)
    × (drop 0x120 r ≡ 1 ∷ 2 ∷ 3 ∷ 4 ∷ 5 ∷ 6 ∷ 7 ∷ 8 ∷ 9 ∷ 10 ∷ 11 ∷ 12 ∷ 13 ∷ 14 ∷ 15 ∷ 16 ∷ 17 ∷ 18 ∷ 0x13 ∷ 0x14 ∷ 0x15 ∷ 0x16 ∷ 0x17 ∷ 0x02 ∷ [])
    × (get_or r 0x132 0 ≡ 0x13)
    × (get_or r 0x137 0 ≡ 0x02)
unfolding device_record sample
record_layout = (refl, refl, refl, refl, refl)
