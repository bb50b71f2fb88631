use Rattle.session.proofs.Writing.{completed-length}
use lib.ListN.{take}
use Rattle.messages.specs.Messages.{iso_count}
use Rattle.replies.specs.Replies.{submit_reply}
use Rattle.settling.specs.Settling.{told}
use Rattle.ground.proofs.Parts.{wrote_all}
use native.Mathlib.Omega.{arith}
use Rattle.session.proofs.carry.write_header.Goals as goal

pub returns-in-Some : goal.returns-in-Some
returns-in-Some c =
    let a = c.args in
    let ret = c.in-Some.ret in
    let bytes = submit_reply ret a.iso (take (iso_count ret.packets) (told a.results)) in
    rw c.in-Some.is
    (wrote_all bytes a.header.now _ c.write_return.result
    (omega (arith, completed-length a.iso (told a.results) ret, c.requires (rw c.in-Some.is)))
    c.write_return.ensures)
