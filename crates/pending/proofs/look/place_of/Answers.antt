use Rattle.std.proofs.Common.{◌∙◌}
use Rattle.pending.specs.Pending.{seqnum_of}
use Rattle.pending.proofs.Finding.{position_place}
use Rattle.pending.proofs.look.place_of.Goals as goal

pub returns-in-Seqnum-clause-place : goal.returns-in-Seqnum-clause-place
returns-in-Seqnum-clause-place c = rw c.in-Seqnum.is (c.place_of_seqnum.ensures.place ∙ position_place seqnum_of c.in-Seqnum.seqnum c.args.urbs.now)
