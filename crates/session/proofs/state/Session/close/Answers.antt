use Rattle.std.proofs.Common.{◌≤◌, rules}
use Rattle.pending.specs.Pending.{Whole}
use Rattle.ground.proofs.Lists.{unmapped}
use Rattle.limits.specs.Limits
use Rattle.session.proofs.Carrying.{closes_by, close-value}
use Rattle.session.proofs.state.Session.close.Goals as goal

pub returns : goal.returns
returns c =
    let whole : Whole c.args.self.pending = search (unmapped, rules) in
    let counted : c.args.self.link.counts.accepted ≤ Limits.LAST-TICKET = search (unmapped, rules) in
    let s = c.args.self in
    let r = c.plan_close-plan.result in
    let l = c.changed-pending.result in
    let t = c.tickets-dropped.result in
    record {
      closes = closes_by s r l t whole counted (rw c.standing.ensures at c.plan_close-plan.ensures) c.changed-pending.ensures c.tickets-dropped.ensures;
      value = close-value s r l t (rw c.standing.ensures at c.plan_close-plan.ensures) c.changed-pending.ensures c.tickets-dropped.ensures;
    }
