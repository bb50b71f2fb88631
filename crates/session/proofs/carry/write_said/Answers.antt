use Rattle.session.proofs.Writing.{refusal_length}
use Rattle.session.proofs.carry.write_said.Goals as goal

pub returns-in-Submit-clause-reply_len_bound : goal.returns-in-Submit-clause-reply_len_bound
returns-in-Submit-clause-reply_len_bound c = rw c.in-Submit.is (refusal_length c.args.iso c.in-Submit.ret)
