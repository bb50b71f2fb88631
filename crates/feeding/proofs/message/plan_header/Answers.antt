use Rattle.std.specs.Prelude.{is_some}
use Rattle.ground.specs.Tests.{first, decide}
use Rattle.verdicts.specs.Verdicts.{header_tests}
use Rattle.verdicts.proofs.Deciding.{first_err, first_ok}
use borrow.Author.Tests.{eq-eqb, ne_eqb}
use Rattle.feeding.proofs.message.plan_header.Goals as goal

pub returns-then-h-eq-CMD_SUBMIT : goal.returns-then-h-eq-CMD_SUBMIT
unfolding decide
returns-then-h-eq-CMD_SUBMIT c =
    let tests = header_tests c.args.p.header c.args.now.link.devid (is_some c.args.look) in
    let e = rw c.is_some.ensures at c.header_fault.ensures in
    rw (first_ok (first tests) c.header_fault.result c.in-Ok.field-0 e c.in-Ok.is, eq-eqb _ _ c.if-h-eq-CMD_SUBMIT.true, c.plan_submit.ensures)

pub returns-in-Err : goal.returns-in-Err
unfolding decide
returns-in-Err c =
    let tests = header_tests c.args.p.header c.args.now.link.devid (is_some c.args.look) in
    let e = rw c.is_some.ensures at c.header_fault.ensures in
    rw (first_err (first tests) c.header_fault.result c.in-Err.fault e c.in-Err.is, c.plan_broken.ensures)

pub returns-else-h-eq-CMD_SUBMIT : goal.returns-else-h-eq-CMD_SUBMIT
unfolding decide
returns-else-h-eq-CMD_SUBMIT c =
    let tests = header_tests c.args.p.header c.args.now.link.devid (is_some c.args.look) in
    let e = rw c.is_some.ensures at c.header_fault.ensures in
    rw (first_ok (first tests) c.header_fault.result c.in-Ok.field-0 e c.in-Ok.is, ne_eqb _ _ c.if-h-eq-CMD_SUBMIT.false, c.plan_unlinked.ensures)
