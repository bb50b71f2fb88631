use Rattle.feeding.proofs.ask.read_from.Goals as goal

pub returns : goal.returns
returns c = rw c.read_header-header.ensures
