use Rattle.std.proofs.Common.{rules}
use Rattle.exports.proofs.Chains.{all_is}
use Rattle.exports.specs.Devices.{no_device}
use Rattle.exports.specs.Rules.{good_device}
use Rattle.tables.proofs.all_good.Goals as goal

pub returns : goal.returns
returns c = all_is no_device good_device c.args.devices.now (search rules)
