use Rattle.std.proofs.Common.{rules, ◌≡◌, ◌∙◌, sym, length, arith}
use Rattle.limits.specs.Limits.{MAX-PENDING}
use Rattle.ages.proofs.Ages.{put_one, put_none}
use Rattle.ages.proofs.put_stale.Goals as goal
use Rattle.ages.proofs.put_stale.Goals.{then-is_old, else-is_old}

pub loop-u-preserved : goal.loop-u-preserved
loop-u-preserved c =
    let room : length c.args.out.now ≡ MAX-PENDING = search rules in
    let a = c.args in
    let l = c.loop-u in
    let one = put_one a.time a.limit a.urbs.now a.out.now l.u-index l.n l.out c.loop-u-test.true l.invariant (omega (arith, room)) in
    let none = put_none a.time a.limit a.urbs.now a.out.now l.u-index l.n l.out c.loop-u-test.true l.invariant in
    elim c.if-is_old.branch [
      | then-is_old w ↦ rw (w.out-is, w.n-is) (one (sym c.is_old.ensures ∙ w.if-is_old.true))
      | else-is_old w ↦ rw (w.out-is, w.n-is) (none (sym c.is_old.ensures ∙ w.if-is_old.false))
    ]
