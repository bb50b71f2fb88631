-- The record, and the interfaces behind it.
use native.Mathlib.Omega.{arith}
use mathlib.Core.Path.{◌≡◌, refl, ◌∙◌}
use Prim.Native.Nat.{◌+◌, ◌≤◌}
use lib.ListN.{length, take, length-append}
use Rattle.ground.specs.Lists.{joined}
use Rattle.ground.proofs.Parts.{wrote_all, written_next}
use Rattle.exports.specs.Devices.{interfaces_of}
use Rattle.records.specs.Records.{DEVICE-LEN, Shaped, device_record, interface_record}
use Rattle.listing.specs.Lists.{listed_device}
use Rattle.ground.proofs.Lists.{unmapped, joined-map}
use Rattle.records.proofs.Records.{record_length}
use Rattle.listing.proofs.Lists.{flat}
use borrow.Author.Rules.{rules}
use Rattle.listing.proofs.write_device.Goals as goal

pub returns-clause-out_after : goal.returns-clause-out_after
unfolding listed_device
returns-clause-out_after c =
    let d = c.args.d in
    let D = c.args.out.now in
    let R = device_record d in
    let h : Shaped d = search (unmapped, rules) in
    let l : length R ≡ DEVICE-LEN = record_length d h in
    let I = joined interface_record (interfaces_of d) in
    let room : DEVICE-LEN + length I ≤ length D = omega (arith, length-append R I, c.requires.2) in
    let e : c.as_flattened.result.now ≡ I =
    c.as_flattened.ensures.value ∙ flat (take d.bNumInterfaces c.args.records)
    ∙ rw c.requires.1 (joined-map interface_record d.bNumInterfaces d.interfaces) in
    let e1 = wrote_all R D c.write_record.new.out c.write_record.result (omega arith) c.write_record.ensures in
    written_next D c.write_record.new.out R I c.write.new.out DEVICE-LEN _ c.write.result refl l e1
    (omega (arith, c.write_record.auto.out)) (rw e at c.write.ensures)
