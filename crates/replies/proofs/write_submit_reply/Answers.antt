use Prim.Native.Nat.{◌+◌, ◌*◌}
use native.Mathlib.Omega.{arith}
use mathlib.Core.Path.{◌≡◌, refl}
use mathlib.Core.List.{◌++◌}
use lib.ListN.{length}
use Rattle.ground.proofs.Parts.{wrote_none, wrote_all, wrote_over, written_next}
use Rattle.wire.specs.Codes.{HEADER-LEN, DESCRIPTOR-LEN}
use Rattle.messages.specs.Messages.{ret_submit}
use Rattle.descriptors.specs.Descriptors.{descriptors_of}
use Rattle.descriptors.proofs.Laws.{descriptors_length}
use Rattle.replies.specs.Replies.{submit_reply}
use Rattle.replies.proofs.Laws.{header-length, reply-length}
use Rattle.replies.proofs.write_submit_reply.Goals as goal

pub returns-then-out-lt-HEADER_LEN : goal.returns-then-out-lt-HEADER_LEN
returns-then-out-lt-HEADER_LEN c =
    let a = c.args in
    let long = reply-length a.ret a.iso.now a.results.now in
    wrote_none (submit_reply a.ret a.iso.now a.results.now) a.out.now (omega arith)

pub returns : goal.returns
unfolding submit_reply
returns c =
    let a = c.args in
    let D = a.out.now in
    let H = ret_submit a.ret in
    let B = descriptors_of a.iso.now a.results.now in
    let lh : length H ≡ HEADER-LEN = header-length a.ret in
    let lb : length B ≡ length a.results.now * DESCRIPTOR-LEN = descriptors_length a.iso.now a.results.now in
    let long = reply-length a.ret a.iso.now a.results.now in
    let x = c.write_ret_submit.new.out in
    let xs : length x ≡ length D = c.write_ret_submit.auto.out in
    let first = wrote_all H D x c.write_ret_submit.result (omega arith) c.write_ret_submit.ensures in
    let both =
    written_next D x H B c.write_descriptors.new.out HEADER-LEN (length x) c.write_descriptors.result refl lh first (omega arith)
    c.write_descriptors.ensures
    in
    wrote_over (H ++ B) D _ (HEADER-LEN + length a.results.now * DESCRIPTOR-LEN) (omega arith) both (omega arith)
