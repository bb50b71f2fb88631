use Rattle.std.proofs.Common.{rules}
use lib.Dec.{eqb}
use Rattle.exports.proofs.Chains.{all_is}
use Rattle.exports.proofs.rules.all_zero.Goals as goal

pub returns : goal.returns
returns c = all_is 0 (λ b. eqb b 0) c.args.bytes.now (search rules)
