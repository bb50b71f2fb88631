-- No room, or the whole.
use native.Mathlib.Omega.{arith}
use mathlib.Core.Path.{◌≡◌}
use lib.ListN.{length}
use Rattle.std.proofs.lemmas.List.{take-map}
use Rattle.limits.specs.Limits.{MAX-DEVICES}
use Rattle.ground.proofs.Parts.{wrote_none, wrote_over}
use Rattle.tables.proofs.Good.{as_many}
use Rattle.records.specs.Records.{records_of}
use Rattle.listing.specs.Lists.{list_reply}
use Rattle.listing.proofs.Lists.{all_listed, reply_length, whole}
use borrow.Author.Rules.{rules}
use Rattle.listing.proofs.list_reply.Goals as goal

pub write_list-requires : goal.write_list-requires
write_list-requires c =
    let t = c.args.table in
    let h = c.if-table-gt-MAX_DEVICES.false in
    let is = c.listed-devices.ensures in
    let size : length t.devices ≡ MAX-DEVICES = search rules in
    let k = all_listed t _ c.list_len.result is h c.in-Some.len c.list_len.ensures.value c.in-Some.is in
    record {
      count = rw (is, as_many t size h) h;
      bytes = rw (is, as_many t size h, c.table_interfaces.ensures) (take-map records_of t.count t.devices);
      each = k.0;
      room = omega (arith, k.1, c.if-len-reply.true);
    }

pub returns-in-Some-clause-wrote : goal.returns-in-Some-clause-wrote
returns-in-Some-clause-wrote c =
    let t = c.args.table in
    let h = c.if-table-gt-MAX_DEVICES.false in
    let is = c.listed-devices.ensures in
    let size : length t.devices ≡ MAX-DEVICES = search rules in
    let k = all_listed t _ c.list_len.result is h c.in-Some.len c.list_len.ensures.value c.in-Some.is in
    let n = reply_length t _ c.list_len.result is h c.in-Some.len c.list_len.ensures.value c.in-Some.is in
    let e = whole t c.listed-devices.result.now c.list_len.result is h size k.0 in
    wrote_over (list_reply t) c.args.reply.now _ _ (omega (arith, n, c.if-len-reply.true)) (rw e c.write_list.ensures.reply_after)
    (rw e c.write_list.ensures.value)

pub returns-in_default-clause-wrote : goal.returns-in_default-clause-wrote
returns-in_default-clause-wrote c =
    let n =
    reply_length c.args.table _ c.list_len.result c.listed-devices.ensures c.if-table-gt-MAX_DEVICES.false c.in-Some.len c.list_len.ensures.value
    c.in-Some.is in
    wrote_none (list_reply c.args.table) c.args.reply.now (omega (arith, n, c.if-len-reply.false))
