-- A device passes the test exactly when it keeps the rules, and two devices exactly when they do.
use Rattle.limits.specs.Limits.{MAX-INTERFACES, MAX-BUSNUM, MAX-DEVNUM}
use Prim.Native.Nat.{ℕ, ◌≤◌}
use mathlib.Core.Path.{◌≡◌}
use mathlib.Core.Logic.{◌↔◌}
use mathlib.Core.Bool.{true}
use Rattle.exports.specs.declared.device.Device.{Device}
use Rattle.exports.specs.Rules.{within, good_device, same_numbers, apart, DeviceRules}
use Rattle.exports.proofs.Texts.{text_iff}
use Rattle.ground.specs.Lists.{same_bytes}
use Rattle.ground.proofs.Tests.{leb_iff, eqb_iff, and_iff, not_iff, not_or, same_iff}

-- ## One device

within_iff : (low high x : ℕ) → (within low high x ≡ true) ↔ ((low ≤ x) × (x ≤ high))
within_iff low high x = and_iff (leb_iff low x) (leb_iff x high)

pub device_iff : (d : Device) → (good_device d ≡ true) ↔ DeviceRules d
unfolding good_device
device_iff d =
    let e =
    and_iff (and_iff (and_iff (and_iff (text_iff d.path) (text_iff d.busid)) (within_iff 1 MAX-BUSNUM d.busnum)) (within_iff 1 MAX-DEVNUM d.devnum))
    (leb_iff d.bNumInterfaces MAX-INTERFACES) in (
      λ h.
          let p = e.0 h in
          record { path = p.0.0.0.0; busid = p.0.0.0.1; busnum = p.0.0.1; devnum = p.0.1; interfaces = p.1 },
      λ r. e.1 ((((r.path, r.busid), r.busnum), r.devnum), r.interfaces),
    )

-- ## Two devices

abbrev pub Apart : Device → Device → Type 0
Apart d e = (d.busid ≡ e.busid → ⊥) × ((d.busnum ≡ e.busnum) × (d.devnum ≡ e.devnum) → ⊥)

pub apart_iff : (d e : Device) → (apart d e ≡ true) ↔ Apart d e
apart_iff d e =
    rw (not_or (same_bytes d.busid e.busid) (same_numbers d e))
    (and_iff (not_iff (same_iff d.busid e.busid)) (not_iff (and_iff (eqb_iff d.busnum e.busnum) (eqb_iff d.devnum e.devnum))))
