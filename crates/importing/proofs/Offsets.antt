-- How long an import reply is, and where each field stands in it, computed on a device whose fields all differ.
use Prim.Native.Nat.{◌+◌}
use mathlib.Core.Path.{◌≡◌, refl, ◌∙◌}
use mathlib.Core.List.{[], ◌∷◌}
use native.Mathlib.Omega.{arith}
use lib.ListN.{length, take, drop, get_or, length-append}
use Rattle.wire.specs.Codes.{OP-LEN, OP-REP-IMPORT}
use Rattle.messages.specs.Messages.{reply_head}
use Rattle.exports.specs.declared.device.Device.{Device}
use Rattle.records.specs.Records.{DEVICE-LEN, Shaped, device_record}
use Rattle.records.proofs.Records.{record_length}
use Rattle.records.proofs.Offsets.{sample}
use Rattle.importing.specs.Imports.{import_reply}

pub import_length : (d : Device) → Shaped d → length (import_reply d) ≡ OP-LEN + DEVICE-LEN
unfolding import_reply
import_length d s = length-append (reply_head OP-REP-IMPORT 0) (device_record d) ∙ omega (arith, record_length d s)

-- Offsets as in source document 000's import table, but for its bDeviceClass, which the lengths put at 0x13A, and so
-- bNumInterfaces at 0x13F.
pub import_layout : let r = import_reply sample in
    (length r ≡ 320)
    × (take 8 r ≡ 0x01 ∷ 0x11 ∷ 0x00 ∷ 0x03 ∷ 0 ∷ 0 ∷ 0 ∷ 0 ∷ [])
    × (get_or r 0x108 0 ≡ 0x31)
    × (drop 0x128 r ≡ 1 ∷ 2 ∷ 3 ∷ 4 ∷ 5 ∷ 6 ∷ 7 ∷ 8 ∷ 9 ∷ 10 ∷ 11 ∷ 12 ∷ 13 ∷ 14 ∷ 15 ∷ 16 ∷ 17 ∷ 18 ∷ 0x13 ∷ 0x14 ∷ 0x15 ∷ 0x16 ∷ 0x17 ∷ 0x02 ∷ [])
    × (get_or r 0x13A 0 ≡ 0x13)
    × (get_or r 0x13F 0 ≡ 0x02)
unfolding import_reply device_record sample
import_layout = (refl, refl, refl, refl, refl, refl)
