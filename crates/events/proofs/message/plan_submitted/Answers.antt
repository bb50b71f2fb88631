use Rattle.ground.specs.Tests.{first, decide}
use Rattle.verdicts.specs.Verdicts.{submit_tests}
use Rattle.events.specs.Plans.{submitted_plan}
use Rattle.verdicts.proofs.Deciding.{first_err, first_ok}
use Rattle.model.specs.State.{submit_packets}
use Rattle.model.specs.Judging.{bad_packets}
use Rattle.events.proofs.Packets.{read-iso, read_verdict}
use Rattle.events.proofs.message.plan_submitted.Goals as goal

pub returns-in-Err : goal.returns-in-Err
unfolding submitted_plan decide
returns-in-Err c =
    let a = c.args in
    let iso = read-iso a.h a.descriptors c.iso_count-count.result c.read_packets-iso.result c.iso_count-count.ensures.0 c.read_packets-iso.ensures in
    let tests = submit_tests a.h a.now.link.devid (bad_packets a.h.transfer (submit_packets a.h a.descriptors)) a.now.pending a.now.link.counts.accepted in
    let e = read_verdict a.h a.descriptors c.iso_count-count.result c.read_packets-iso.result c.iso_count-count.ensures.0 c.read_packets-iso.ensures
    a.now.link a.now.pending c.bad_packets-bad.result c.submit_status.result c.bad_packets-bad.ensures c.submit_status.ensures in
    rw (first_err (first tests) c.submit_status.result c.in-Err.status e c.in-Err.is, c.plan_answered.ensures, iso)

pub returns-in-Ok : goal.returns-in-Ok
unfolding submitted_plan decide
returns-in-Ok c =
    let a = c.args in
    let iso = read-iso a.h a.descriptors c.iso_count-count.result c.read_packets-iso.result c.iso_count-count.ensures.0 c.read_packets-iso.ensures in
    let tests = submit_tests a.h a.now.link.devid (bad_packets a.h.transfer (submit_packets a.h a.descriptors)) a.now.pending a.now.link.counts.accepted in
    let e = read_verdict a.h a.descriptors c.iso_count-count.result c.read_packets-iso.result c.iso_count-count.ensures.0 c.read_packets-iso.ensures
    a.now.link a.now.pending c.bad_packets-bad.result c.submit_status.result c.bad_packets-bad.ensures c.submit_status.ensures in
    rw (first_ok (first tests) c.submit_status.result c.in-Ok.field-0 e c.in-Ok.is, c.plan_accepted.ensures, iso)
