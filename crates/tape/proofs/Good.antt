-- The tape's table keeps the rules of a table.
use Rattle.std.proofs.Common.{◌≡◌, true, refl}
use Rattle.exports.specs.Rules.{text, good_device}
use Rattle.tables.specs.Tables.{good_table}
use Rattle.tape.specs.Table.{tape_table}

pub table-good : good_table tape_table ≡ true
unfolding good_table good_device text tape_table
table-good = refl
