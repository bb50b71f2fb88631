use Rattle.std.proofs.Common.{List, ap, ◌∙◌}
use Rattle.pending.specs.declared.urb.Urb.{Urb}
use Rattle.pending.specs.Pending.{listing}
use Rattle.ages.specs.Ages.{stale_in}
use Rattle.pending.proofs.Walks.{over_zeros}
use Rattle.ages.proofs.stale_tickets.Goals as goal

pub returns : goal.returns
returns c =
    let stale : List Urb → List Urb = stale_in c.args.time c.args.limit in
    rw (c.put_stale-count.ensures.0, c.put_stale-count.ensures.1)
    (over_zeros (stale c.as_slice.result.now) ∙ ap (λ us. listing (stale us)) c.as_slice.ensures)
