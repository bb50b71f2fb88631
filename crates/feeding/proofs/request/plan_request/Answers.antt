use mathlib.Core.Bool.{not}
use lib.Dec.{eqb}
use Rattle.limits.specs.Limits
use Rattle.ground.specs.Tests.{first, decide}
use Rattle.verdicts.specs.Verdicts.{feed_refusals}
use Rattle.verdicts.proofs.Deciding.{first_err, first_ok}
use Rattle.links.specs.Links.{phase_of}
use Rattle.feeding.proofs.Waiting.{waits}
use Rattle.feeding.specs.Planning.{request_plan}
use Rattle.feeding.proofs.request.plan_request.Goals as goal

pub plan_waiting-requires : goal.plan_waiting-requires
plan_waiting-requires c =
    let a = c.args in
    let tests = feed_refusals (not (eqb (phase_of a.now.link a.now.pending) Limits.WAITING)) a.work a.reply in
    let e = rw c.phase-closed.ensures at c.feed_refusal.ensures in
    waits a.now.link a.now.pending a.work a.reply (first_ok (first tests) c.feed_refusal.result c.in-Ok.field-0 e c.in-Ok.is)

pub returns-in-Err : goal.returns-in-Err
unfolding request_plan decide
returns-in-Err c =
    let a = c.args in
    let tests = feed_refusals (not (eqb (phase_of a.now.link a.now.pending) Limits.WAITING)) a.work a.reply in
    let e = rw c.phase-closed.ensures at c.feed_refusal.ensures in
    rw (first_err (first tests) c.feed_refusal.result c.in-Err.refusal e c.in-Err.is, c.plan_silent.ensures, c.plan_refused.ensures, c.from.ensures)

pub returns-in-Ok : goal.returns-in-Ok
unfolding request_plan decide
returns-in-Ok c =
    let a = c.args in
    let tests = feed_refusals (not (eqb (phase_of a.now.link a.now.pending) Limits.WAITING)) a.work a.reply in
    let e = rw c.phase-closed.ensures at c.feed_refusal.ensures in
    rw (first_ok (first tests) c.feed_refusal.result c.in-Ok.field-0 e c.in-Ok.is, c.plan_waiting.ensures)
