-- Each field's bytes, written at its place.
use Prim.Native.Nat.{◌<◌}
use mathlib.Core.Path.{refl}
use Rattle.wire.proofs.Numbers.{one_byte}
use borrow.Author.Rules.{rules}
use Rattle.records.proofs.record.numbers.Goals as goal

pub returns : goal.returns
returns c =
    let d = c.args.d in
    let b : (d.bDeviceClass < 256) × (d.bDeviceSubClass < 256) × (d.bDeviceProtocol < 256) × (d.bConfigurationValue < 256)
    × (d.bNumConfigurations < 256) × (d.bNumInterfaces < 256) = search rules in
    rw (
      c.copy_from_slice.ensures.after,
      c.copy_from_slice-2.ensures.after,
      c.copy_from_slice-3.ensures.after,
      c.copy_from_slice-4.ensures.after,
      c.copy_from_slice-5.ensures.after,
      c.copy_from_slice-6.ensures.after,
      c.to_bytes.ensures,
      c.to_bytes-2.ensures,
      c.to_bytes-3.ensures,
      c.to_bytes-4.ensures,
      c.to_bytes-5.ensures,
      c.to_bytes-6.ensures,
      one_byte d.bDeviceClass b.0,
      one_byte d.bDeviceSubClass b.1,
      one_byte d.bDeviceProtocol b.2,
      one_byte d.bConfigurationValue b.3,
      one_byte d.bNumConfigurations b.4,
      one_byte d.bNumInterfaces b.5,
    ) refl
