use Rattle.std.proofs.Common.{rules}
use Rattle.exports.specs.Devices.{no_device}
use Rattle.records.specs.Records.{records_of}
use Rattle.records.proofs.Maps.{map_is}
use Rattle.records.proofs.interface.table_interfaces.Goals as goal

pub returns : goal.returns
returns c = map_is records_of no_device c.args.devices c.map.result (search rules) (search rules)
