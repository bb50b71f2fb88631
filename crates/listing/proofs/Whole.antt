-- A table that keeps the rules has the whole list reply.
use Prim.Native.Nat.{◌≤◌}
use Rattle.exports.specs.declared.device.Device.{Device}
use Rattle.limits.specs.Limits.{MAX-INTERFACES}
use Rattle.exports.specs.Devices.{no_device, devices_of}
use Rattle.ground.proofs.Tests.{leb_iff, every_iff}
use Rattle.tables.proofs.Good.{as_many}
use Rattle.listing.specs.Lists.{few, ListsAll}
use Rattle.listing.proofs.Lists.{list_is}

pub lists-all : ListsAll
lists-all t r = (
  list_is t r.few
      ((every_iff no_device few (λ (d : Device). d.bNumInterfaces ≤ MAX-INTERFACES) (λ d. leb_iff d.bNumInterfaces MAX-INTERFACES) (devices_of t)).1
      (λ i h. (r.each i h).interfaces)),
  λ l. as_many t l r.few,
)
