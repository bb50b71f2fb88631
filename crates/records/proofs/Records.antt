-- The bytes of a device's record and of its interfaces.
use mathlib.Core.Path.{◌≡◌}
use native.Mathlib.Omega.{arith}
use lib.ListN.{length, length-append}
use Rattle.wire.proofs.Heads.{pack-length}
use Rattle.records.specs.Records.{DEVICE-LEN, number_fields, device_record, Shaped}
use Rattle.exports.specs.declared.device.Device.{Device}
use Rattle.exports.specs.declared.device.Interface.{Interface}

-- what a read past an array's end is taken to give
abbrev pub no_interface : Interface
no_interface = record { bInterfaceClass = 0; bInterfaceSubClass = 0; bInterfaceProtocol = 0 }

pub record_length : (d : Device) → Shaped d → length (device_record d) ≡ DEVICE-LEN
unfolding device_record
record_length d s = simp (length-append, pack-length (number_fields d)) (omega arith)
