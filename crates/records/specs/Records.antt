-- The bytes of a device and of its interfaces (PROTOCOL.md, 4.2).
use Rattle.std.specs.Prelude.{ℕ, ◌≡◌, List, [], ◌∷◌, ◌++◌, map, length}
use Rattle.wire.specs.Codes.{BUSID-LEN}
use Rattle.wire.specs.Fields.{Field, u8, u16, u32, pack}
use Rattle.limits.specs.Limits.{MAX-INTERFACES, PATH-LEN}
use Rattle.exports.specs.declared.device.Interface.{Interface}
use Rattle.exports.specs.declared.device.Device.{Device}

-- The bytes of a device's numbers, of its whole record and of an interface's.
abbrev pub NUMBERS-LEN : ℕ
NUMBERS-LEN = 24

abbrev pub DEVICE-LEN : ℕ
DEVICE-LEN = 312

abbrev pub INTERFACE-LEN : ℕ
INTERFACE-LEN = 4

-- A device's numbers, behind its path and its busid.
abbrev pub number_fields : Device → List Field
number_fields d =
    u32 d.busnum ∷ u32 d.devnum ∷ u32 d.speed ∷
    u16 d.idVendor ∷ u16 d.idProduct ∷ u16 d.bcdDevice ∷
    u8 d.bDeviceClass ∷ u8 d.bDeviceSubClass ∷ u8 d.bDeviceProtocol ∷
    u8 d.bConfigurationValue ∷ u8 d.bNumConfigurations ∷ u8 d.bNumInterfaces ∷ []

-- The 312 bytes of a device, in a list and in an import reply.
unfoldable pub device_record : Device → List ℕ
device_record d = d.path ++ d.busid ++ pack (number_fields d)

-- The 4 bytes of an interface: three, and a zero.
abbrev pub interface_record : Interface → List ℕ
interface_record i = i.bInterfaceClass ∷ i.bInterfaceSubClass ∷ i.bInterfaceProtocol ∷ 0 ∷ []

-- All the interfaces that a device has room for.
abbrev pub records_of : Device → List (List ℕ)
records_of d = map interface_record d.interfaces

-- What the types of a device's arrays say of it.
abbrev pub Shaped : Device → Type 0
Shaped d = (length d.path ≡ PATH-LEN) × (length d.busid ≡ BUSID-LEN) × (length d.interfaces ≡ MAX-INTERFACES)
