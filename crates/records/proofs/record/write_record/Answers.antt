-- The path, the busid behind it, and the numbers behind both.
use Prim.Native.Nat.{◌≤◌, ◌+◌, ◌-◌}
use native.Mathlib.Omega.{arith}
use mathlib.Core.Path.{◌≡◌, refl, sym, ap, ◌∙◌}
use mathlib.Core.List.{◌++◌}
use lib.ListN.{length, length-append}
use borrow.Rule.Slice.PartMut.{same_len_mid}
use Rattle.wire.specs.Codes.{BUSID-LEN}
use Rattle.wire.specs.Fields.{pack}
use Rattle.wire.proofs.Heads.{pack-length}
use Rattle.ground.proofs.Parts.{wrote_all, wrote_over, written_next}
use Rattle.limits.specs.Limits.{PATH-LEN}
use Rattle.records.specs.Records.{NUMBERS-LEN, DEVICE-LEN, Shaped, number_fields, device_record}
use Rattle.ground.proofs.Lists.{unmapped}
use Rattle.records.proofs.Records.{record_length}
use borrow.Author.Rules.{rules}
use Rattle.records.proofs.record.write_record.Goals as goal

pub returns : goal.returns
unfolding device_record
returns c =
    let d = c.args.d in
    let D = c.args.out.now in
    let h : Shaped d = search (unmapped, rules) in
    let l = record_length d h in
    let room : DEVICE-LEN ≤ length D = c.if-out-lt-DEVICE_LEN.false in
    let e1 = wrote_all d.path D c.write.new.out c.write.result (omega arith) c.write.ensures in
    let l1 : length c.write.new.out ≡ length D = c.write.auto.out in
    let e2 =
    written_next D c.write.new.out d.path d.busid c.write-2.new.out PATH-LEN _ c.write-2.result refl h.0 e1 (omega arith)
    c.write-2.ensures in
    let l2 = same_len_mid PATH-LEN (length c.write.new.out - PATH-LEN) c.write.new.out c.write-2.new.out c.write-2.auto.out ∙ l1 in
    let tail = c.numbers.result in
    let t : tail ≡ pack (number_fields d) = c.numbers.ensures in
    let lt : length tail ≡ NUMBERS-LEN = ap length t ∙ pack-length (number_fields d) in
    let e3 =
    written_next D _ (d.path ++ d.busid) tail c.write-3.new.out (PATH-LEN + BUSID-LEN) _ c.write-3.result refl
    (simp length-append (omega arith)) e2 (omega arith) c.write-3.ensures in
    wrote_over (device_record d) D _ DEVICE-LEN (omega arith) (rw t at e3) (sym l)
