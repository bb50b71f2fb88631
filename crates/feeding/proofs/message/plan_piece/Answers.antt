use mathlib.Core.Bool.{not}
use lib.Dec.{eqb}
use Rattle.limits.specs.Limits
use Rattle.ground.specs.Tests.{first, decide}
use Rattle.verdicts.specs.Verdicts.{feed_refusals}
use Rattle.verdicts.proofs.Deciding.{first_err, first_ok}
use Rattle.links.specs.Links.{phase_of}
use Rattle.feeding.specs.Planning.{message_plan}
use Rattle.feeding.proofs.message.plan_piece.Goals as goal

pub returns-in-Err : goal.returns-in-Err
unfolding message_plan decide
returns-in-Err c =
    let tests = feed_refusals (not (eqb (phase_of c.args.now.link c.args.now.pending) Limits.ATTACHED)) c.args.work c.args.reply in
    let e = rw c.phase-closed.ensures at c.feed_refusal.ensures in
    rw (first_err (first tests) c.feed_refusal.result c.in-Err.refusal e c.in-Err.is, c.plan_refused.ensures, c.from.ensures)

pub returns-in-Ok : goal.returns-in-Ok
unfolding message_plan decide
returns-in-Ok c =
    let tests = feed_refusals (not (eqb (phase_of c.args.now.link c.args.now.pending) Limits.ATTACHED)) c.args.work c.args.reply in
    let e = rw c.phase-closed.ensures at c.feed_refusal.ensures in
    rw (first_ok (first tests) c.feed_refusal.result c.in-Ok.field-0 e c.in-Ok.is, c.plan_attached.ensures)
