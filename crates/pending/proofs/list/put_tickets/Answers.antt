use Rattle.std.proofs.Common.{rules, ◌≡◌, length, arith}
use Rattle.pending.proofs.Walks.{tickets_more}
use Rattle.limits.specs.Limits.{MAX-PENDING}
use Rattle.pending.proofs.list.put_tickets.Goals as goal

pub loop-i-preserved : goal.loop-i-preserved
loop-i-preserved c =
    let room : length c.args.out.now ≡ MAX-PENDING = search rules in
    rw c.loop-i.invariant (tickets_more c.args.urbs.now c.args.out.now c.loop-i.i (omega arith) (omega (arith, room)))
