use Rattle.session.proofs.Writing.{refused-length}
use Rattle.std.proofs.Common.{arith}
use Rattle.session.proofs.carry.write_import.Goals as goal

pub returns-in-None-clause-reply_len_bound : goal.returns-in-None-clause-reply_len_bound
returns-in-None-clause-reply_len_bound c = rw c.in-None.is (omega (arith, refused-length))
