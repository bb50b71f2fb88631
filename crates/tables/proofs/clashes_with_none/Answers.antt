use Rattle.std.proofs.Common.{rules}
use Rattle.exports.proofs.Chains.{all_is}
use Rattle.exports.specs.Devices.{no_device}
use Rattle.exports.specs.Rules.{apart}
use Rattle.tables.proofs.clashes_with_none.Goals as goal

pub returns : goal.returns
returns c = all_is no_device (apart c.args.d) c.args.others.now (search rules)
