use Prim.Native.Nat.{◌≤◌}
use Rattle.pending.specs.Pending.{Whole}
use Rattle.ground.proofs.Lists.{unmapped}
use Rattle.limits.specs.Limits
use Rattle.session.proofs.Carrying.{completion_planned, completes_by, complete-value}
use borrow.Author.Rules.{rules}
use Rattle.session.proofs.state.Session.settle.Goals as goal

pub write_header-requires : goal.write_header-requires
write_header-requires c =
    let whole : Whole c.args.self.pending = search (unmapped, rules) in
    let counted : c.args.self.link.counts.accepted ≤ Limits.LAST-TICKET = search (unmapped, rules) in
    let a = c.args in
    (completion_planned a.self a.given a.ticket a.payload.now a.header.now c.look-look.result c.plan_completion-plan.result
    whole c.requires counted c.look-look.ensures (rw c.standing-now.ensures at c.plan_completion-plan.ensures)).fits

pub returns : goal.returns
returns c =
    let whole : Whole c.args.self.pending = search (unmapped, rules) in
    let counted : c.args.self.link.counts.accepted ≤ Limits.LAST-TICKET = search (unmapped, rules) in
    let a = c.args in
    record {
      completes = completes_by a.self a.given a.ticket a.payload.now a.header.now c.look-look.result c.plan_completion-plan.result
          whole c.requires counted c.look-look.ensures (rw c.standing-now.ensures at c.plan_completion-plan.ensures) _ c.changed-pending.result c.changed-pending.ensures
          c.write_header.ensures;
      value = complete-value a.self a.given a.ticket a.payload.now a.header.now c.look-look.result c.plan_completion-plan.result
          whole c.requires counted c.look-look.ensures (rw c.standing-now.ensures at c.plan_completion-plan.ensures) c.changed-pending.result c.changed-pending.ensures;
    }
