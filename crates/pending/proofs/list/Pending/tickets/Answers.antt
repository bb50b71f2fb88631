use mathlib.Core.Path.{ap, ◌∙◌}
use lib.ListN.{take}
use Rattle.pending.specs.Pending.{listing}
use Rattle.pending.proofs.Walks.{over_zeros}
use Rattle.pending.proofs.list.Pending.tickets.Goals as goal

pub returns : goal.returns
returns c =
    rw c.put_tickets.ensures
    (over_zeros c.front-urbs.result.now ∙ ap listing (c.front-urbs.ensures ∙ ap (take c.args.n) c.as_slice.ensures))
