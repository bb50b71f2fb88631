use Rattle.ground.specs.Tests.{first}
use Rattle.verdicts.specs.Verdicts.{request_tests}
use Rattle.verdicts.proofs.Deciding.{first_err, first_ok}
use Rattle.feeding.proofs.Waiting.{head-breaks, head-lists, head_goes}
use Rattle.feeding.proofs.request.plan_head.Goals as goal

pub returns-then-request : goal.returns-then-request
returns-then-request c =
    let a = c.args in
    let f = first_ok (first (request_tests c.read_request-request.result)) c.request_fault.result c.in-Ok.field-0 c.request_fault.ensures c.in-Ok.is in
    rw c.plan_list.ensures
    (head-lists a.table a.now.link a.now.pending a.piece.now c.grown_by-q-2.result c.read_request-request.result c.grown_by-q-2.ensures
    c.read_request-request.ensures c.if-len-need.false f c.if-request.true)

pub returns-in-Err : goal.returns-in-Err
returns-in-Err c =
    let a = c.args in
    let f = first_err (first (request_tests c.read_request-request.result)) c.request_fault.result c.in-Err.fault c.request_fault.ensures c.in-Err.is in
    rw (c.plan_silent-in-Err.ensures, c.plan_broken.ensures)
    (head-breaks a.table a.now.link a.now.pending a.piece.now c.grown_by-q-2.result c.read_request-request.result c.grown_by-q-2.ensures
    c.read_request-request.ensures c.if-len-need.false c.in-Err.fault f)

pub returns-else-request : goal.returns-else-request
returns-else-request c =
    let a = c.args in
    let f = first_ok (first (request_tests c.read_request-request.result)) c.request_fault.result c.in-Ok.field-0 c.request_fault.ensures c.in-Ok.is in
    rw c.plan_busid.ensures
    (head_goes a.table a.now.link a.now.pending a.piece.now c.grown_by-q-2.result c.read_request-request.result c.grown_by-q-2.ensures
    c.read_request-request.ensures c.if-len-need.false f c.if-request.false)
