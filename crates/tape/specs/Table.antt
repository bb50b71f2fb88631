-- "Its table has one device: path `/deck/1-1`, busid `1-1`, busnum 1, devnum 15, all else 0" (PROTOCOL.md, 10.1).
use Rattle.std.specs.Prelude.{ℕ, List, [], ◌∷◌, replicate}
use Rattle.wire.specs.Codes.{BUSID-LEN}
use Rattle.exports.specs.declared.device.Device.{Device}
use Rattle.exports.specs.declared.device.Table.{Table}
use Rattle.limits.specs.Limits.{MAX-DEVICES, MAX-INTERFACES, PATH-LEN}
use Rattle.ground.specs.Lists.{padded}
use Rattle.tape.specs.Layout.{DATA-LEN}

-- `/deck/1-1` and `1-1` in ASCII.
abbrev pub tape_path : List ℕ
tape_path = padded PATH-LEN (0x2f ∷ 0x64 ∷ 0x65 ∷ 0x63 ∷ 0x6b ∷ 0x2f ∷ 0x31 ∷ 0x2d ∷ 0x31 ∷ [])

abbrev pub tape_busid : List ℕ
tape_busid = padded BUSID-LEN (0x31 ∷ 0x2d ∷ 0x31 ∷ [])

abbrev pub tape_device : Device
tape_device =
    record {
      path = tape_path;
      busid = tape_busid;
      busnum = 1;
      devnum = 15;
      speed = 0;
      idVendor = 0;
      idProduct = 0;
      bcdDevice = 0;
      bDeviceClass = 0;
      bDeviceSubClass = 0;
      bDeviceProtocol = 0;
      bConfigurationValue = 0;
      bNumConfigurations = 0;
      bNumInterfaces = 0;
      interfaces = replicate MAX-INTERFACES (record { bInterfaceClass = 0; bInterfaceSubClass = 0; bInterfaceProtocol = 0 });
    }

-- What stands past the count is free: the code has the device there again.
unfoldable pub tape_table : Table
tape_table = record { devices = replicate MAX-DEVICES tape_device; count = 1 }

-- "with 16,384 zero bytes as the device's data"
abbrev pub device_data : List ℕ
device_data = replicate DATA-LEN 0
