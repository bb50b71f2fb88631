use Rattle.std.proofs.Common.{rules}
use Rattle.records.specs.Records.{interface_record}
use Rattle.records.proofs.Maps.{map_is}
use Rattle.records.proofs.Records.{no_interface}
use Rattle.records.proofs.interface.interface_records.Goals as goal

pub returns : goal.returns
returns c = map_is interface_record no_interface c.args.d.interfaces c.map.result (search rules) (search rules)
