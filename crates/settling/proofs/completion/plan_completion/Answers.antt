use Rattle.ground.specs.Tests.{first, decide}
use Rattle.verdicts.specs.Verdicts.{completion_refusals}
use Rattle.verdicts.proofs.Deciding.{first_err, first_ok}
use Rattle.links.specs.Links.{phase_of}
use Rattle.settling.specs.Settling.{judged_by, completion_plan}
use Rattle.settling.proofs.completion.plan_completion.Goals as goal

pub returns-in-Err : goal.returns-in-Err
unfolding completion_plan decide
returns-in-Err c =
    let a = c.args in
    let tests = completion_refusals (judged_by (phase_of a.now.link a.now.pending) a.look a.given a.payload a.header) in
    let e = rw (c.judged_by-c.ensures, c.phase.ensures) at c.completion_refusal.ensures in
    rw (first_err (first tests) c.completion_refusal.result c.in-Err.refusal e c.in-Err.is, c.plan_refusal.ensures)

pub returns-in-Some : goal.returns-in-Some
unfolding completion_plan decide
returns-in-Some c =
    let a = c.args in
    let tests = completion_refusals (judged_by (phase_of a.now.link a.now.pending) a.look a.given a.payload a.header) in
    let e = rw (c.judged_by-c.ensures, c.phase.ensures) at c.completion_refusal.ensures in
    rw (first_ok (first tests) c.completion_refusal.result c.in-Ok.field-0 e c.in-Ok.is, c.plan_return.ensures, c.in-Some.is)
