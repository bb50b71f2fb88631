use Rattle.std.proofs.Common.{arith, ap, length}
use Rattle.capi.proofs.Places.{of_header, of_payload, of_descriptors}
use Rattle.capi.proofs.sending.rimemaple_part.Goals as goal

pub returns-then-sent-lt-HEADER_LEN-clause-payload_value : goal.returns-then-sent-lt-HEADER_LEN-clause-payload_value
returns-then-sent-lt-HEADER_LEN-clause-payload_value c =
    let a = c.args in
    (of_header a.header.now a.payload.now a.n a.packets a.sent a.most _ _ (ap length c.part-part.ensures) c.if-length-eq0.false
    (omega arith) c.part_at-then-sent-lt-HEADER_LEN.ensures).1

pub returns-then-sent-n-clause-payload_value : goal.returns-then-sent-n-clause-payload_value
returns-then-sent-n-clause-payload_value c =
    let a = c.args in
    (of_payload a.header.now a.payload.now a.n a.packets a.sent a.most _ _ (ap length c.part-part.ensures) c.if-length-eq0.false
    (omega arith) (omega arith) c.part_at-then-sent-n.ensures).1

pub returns-clause-payload_value : goal.returns-clause-payload_value
returns-clause-payload_value c =
    let a = c.args in
    (of_descriptors a.header.now a.payload.now a.n a.packets a.sent a.most _ _ (ap length c.part-part.ensures) c.if-length-eq0.false
    (omega arith) (omega arith) c.part_at-2.ensures).1
