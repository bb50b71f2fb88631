use Prim.Native.Nat.{ℕ}
use lib.ListN.{length}
use mathlib.Core.Path.{◌≡◌, ◌∙◌}
use Rattle.limits.specs.Limits.{MAX-DEVICES}
use Rattle.ground.proofs.Lists.{unmapped}
use Rattle.model.specs.Cut.{lent}
use Rattle.events.specs.Plans.{request_bytes}
use Rattle.feeding.specs.Feeding.{Arrays}
use Rattle.session.proofs.Carrying.{request_planned, feeds_by, fed_by_lem, request-fed}
use borrow.Author.Rules.{rules}
use Rattle.session.proofs.state.Session.feed_request.Goals as goal

pub copy_body-requires : goal.copy_body-requires
copy_body-requires c =
    let a = c.args in
    let arrays : Arrays a.self.link a.self.pending = (search (unmapped, rules), search (unmapped, rules), search (unmapped, rules), search (unmapped, rules)) in
    let devices : length a.self.table.devices ≡ MAX-DEVICES = search (unmapped, rules) in
    let r = c.plan_request-asked.result in
    let b = lent a.work.now a.reply.now in
    let bytes = request_bytes a.self.table r.reply in
    let composed = λ (time : ℕ). request_planned a.self a.piece.now b time arrays r devices c.requires (rw c.standing-now.ensures at c.plan_request-asked.ensures) in
    let k = composed 0 in
    (k.inside, k.fits)

pub returns : goal.returns
returns c =
    let a = c.args in
    let arrays : Arrays a.self.link a.self.pending = (search (unmapped, rules), search (unmapped, rules), search (unmapped, rules), search (unmapped, rules)) in
    let devices : length a.self.table.devices ≡ MAX-DEVICES = search (unmapped, rules) in
    let r = c.plan_request-asked.result in
    let b = lent a.work.now a.reply.now in
    let bytes = request_bytes a.self.table r.reply in
    let composed = λ (time : ℕ). request_planned a.self a.piece.now b time arrays r devices c.requires (rw c.standing-now.ensures at c.plan_request-asked.ensures) in
    let l = c.changed-pending.result in
    let t = c.tickets-dropped.result in
    let n = c.write_request_reply-n.result in
    let w = c.write_request_reply-n.ensures in
    rw c.answer_of.ensures (record {
      by_index = λ time. feeds_by a.self a.piece.now b (lent _ _) time r.plan bytes l t n arrays.2 (composed time) c.changed-pending.ensures
          c.tickets-dropped.ensures c.copy_body.ensures w.wrote w.reply_len_bound;
      value = fed_by_lem a.self a.piece.now b _ 0 r.plan bytes l t n (composed 0) c.changed-pending.ensures c.tickets-dropped.ensures
          w.wrote w.reply_len_bound
          ∙ request-fed a.self a.piece.now (length a.work.now) (length a.reply.now) 0 r (rw c.standing-now.ensures at c.plan_request-asked.ensures);
    })
