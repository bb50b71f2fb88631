-- The reply to a list request (PROTOCOL.md, 4.2).
use Rattle.std.specs.Prelude.{ℕ, ◌+◌, ◌*◌, ◌≤◌, ◌≡◌, List, [], ◌∷◌, ◌++◌, map, Bool, true, ◌&&◌, cond, length, take, leb}
use Rattle.wire.specs.Codes.{OP-REP-DEVLIST}
use Rattle.wire.specs.Fields.{u32, pack}
use Rattle.ground.specs.Lists.{joined, every}
use Rattle.messages.specs.Messages.{reply_head}
use Rattle.limits.specs.Limits.{MAX-DEVICES, MAX-INTERFACES}
use Rattle.exports.specs.Devices.{devices_of, interfaces_of}
use Rattle.exports.specs.declared.device.Device.{Device}
use Rattle.exports.specs.declared.device.Table.{Table}
use Rattle.tables.specs.Tables.{Rules}
use Rattle.records.specs.Records.{DEVICE-LEN, INTERFACE-LEN, device_record, interface_record, records_of}

-- The bytes of a list reply before its first device.
abbrev pub LIST-HEAD-LEN : ℕ
LIST-HEAD-LEN = 12

-- A device in a list: its record and its interfaces.
unfoldable pub listed_device : Device → List ℕ
listed_device d = device_record d ++ joined interface_record (interfaces_of d)

-- ## The list reply

-- What a list reply starts with: the head and the count of devices.
abbrev pub list_head : ℕ → List ℕ
list_head count = reply_head OP-REP-DEVLIST 0 ++ pack (u32 count ∷ [])

-- A table that has a list reply: no more devices, and none with more interfaces, than there is room for.
abbrev pub few : Device → Bool
few d = leb d.bNumInterfaces MAX-INTERFACES

abbrev pub listable : Table → Bool
listable t = leb t.count MAX-DEVICES && every few (devices_of t)

-- The list reply: each device straight after the last. No other table has one.
unfoldable pub list_reply : Table → List ℕ
list_reply t = cond (listable t) (list_head t.count ++ joined listed_device (devices_of t)) []

-- A table that keeps the rules has the whole reply: the head with its count of devices, then every device with its interfaces.
-- (Each array of the code has all its places, so the count is how many devices there are.)
abbrev pub ListsAll : Type 0
ListsAll = (t : Table) → Rules t
    → (list_reply t ≡ list_head t.count ++ joined listed_device (devices_of t))
    × (length t.devices ≡ MAX-DEVICES → length (devices_of t) ≡ t.count)

-- ## How long they are

-- The bytes of a device in a list, and of devices one after the other.
abbrev pub listed_size : Device → ℕ
listed_size d = DEVICE-LEN + d.bNumInterfaces * INTERFACE-LEN

abbrev pub list_size : List Device → ℕ
list_size [] = 0
list_size (d ∷ ds) = listed_size d + list_size ds

-- The most that a device and a whole list reply can be.
abbrev pub MAX-LISTED : ℕ
MAX-LISTED = DEVICE-LEN + MAX-INTERFACES * INTERFACE-LEN

abbrev pub MAX-LIST : ℕ
MAX-LIST = LIST-HEAD-LEN + MAX-DEVICES * MAX-LISTED

-- What the writer of a list reply asks of those who call it: devices that have a reply, their interfaces' bytes, and room.
pub record Listing (devices : List Device) (interfaces : List (List (List ℕ))) (reply : List ℕ) : Type 0 where
  pub count : length devices ≤ MAX-DEVICES
  pub bytes : take (length devices) interfaces ≡ map records_of devices
  pub each : every few devices ≡ true
  pub room : LIST-HEAD-LEN + length (joined listed_device devices) ≤ length reply
