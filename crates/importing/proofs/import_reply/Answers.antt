-- The head, and the device's record behind it.
use Prim.Native.Nat.{◌≤◌, ◌+◌}
use native.Mathlib.Omega.{arith}
use mathlib.Core.Path.{◌≡◌, refl, sym}
use lib.ListN.{length}
use Rattle.wire.specs.Codes.{OP-LEN, OP-REP-IMPORT}
use Rattle.messages.specs.Messages.{reply_head}
use Rattle.ground.proofs.Parts.{wrote_all, wrote_over, written_next}
use Rattle.records.specs.Records.{DEVICE-LEN, Shaped, device_record}
use Rattle.importing.specs.Imports.{import_reply}
use Rattle.ground.proofs.Lists.{unmapped}
use Rattle.records.proofs.Records.{record_length}
use Rattle.importing.proofs.Offsets.{import_length}
use borrow.Author.Rules.{rules}
use Rattle.importing.proofs.import_reply.Goals as goal

pub returns-clause-wrote : goal.returns-clause-wrote
unfolding import_reply
returns-clause-wrote c =
    let d = c.args.d in
    let D = c.args.reply.now in
    let H = reply_head OP-REP-IMPORT 0 in
    let h : Shaped d = search (unmapped, rules) in
    let l = import_length d h in
    let r = record_length d h in
    let room : OP-LEN + DEVICE-LEN ≤ length D = c.if-reply.false in
    let l1 : length c.write.new.out ≡ length D = c.write.auto.out in
    let e1 = wrote_all H D c.write.new.out c.write.result (omega arith) (rw c.reply_head.ensures at c.write.ensures) in
    let e2 =
    written_next D c.write.new.out H (device_record d) c.write_record.new.out OP-LEN _ c.write_record.result refl refl e1
    (omega arith) c.write_record.ensures in
    wrote_over (import_reply d) D _ (OP-LEN + DEVICE-LEN) (omega arith) e2 (sym l)
