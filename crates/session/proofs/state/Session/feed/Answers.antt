use mathlib.Core.Path.{◌∙◌}
use lib.ListN.{length}
use Rattle.ground.proofs.Lists.{unmapped}
use Rattle.model.specs.Cut.{lent}
use Rattle.events.specs.Plans.{reply_bytes}
use Rattle.feeding.specs.Feeding.{Arrays, Composed}
use Rattle.feeding.proofs.Messages.{ask_inside}
use Rattle.session.proofs.Carrying.{message_planned, feeds_by, fed_by_lem, request-value, message-value}
use borrow.Author.Rules.{rules}
use Rattle.session.proofs.state.Session.feed.Goals as goal

pub returns-then-link-eq-WAITING : goal.returns-then-link-eq-WAITING
returns-then-link-eq-WAITING c =
    let a = c.args in
    record {
      feeds = c.feed_request.ensures.by_index a.time;
      value = c.feed_request.ensures.value
          ∙ request-value a.self a.piece.now (length a.work.now) (length a.reply.now) a.time c.if-link-eq-WAITING.true;
    }

pub plan_piece-plan-requires : goal.plan_piece-plan-requires
plan_piece-plan-requires c =
    let a = c.args in
    rw c.ask-asked.ensures (ask_inside a.self.link a.piece.now)

pub write_planned-n-requires : goal.write_planned-n-requires
write_planned-n-requires c =
    let arrays : Arrays c.args.self.link c.args.self.pending = (search (unmapped, rules), search (unmapped, rules), search (unmapped, rules), search (unmapped, rules)) in
    let composed : let a = c.args in
    let r = c.plan_piece-plan.result in
    Composed r (reply_bytes r.iso r.reply) a.self.table a.self.link a.self.pending a.piece.now (lent a.work.now a.reply.now)
    a.time = let a = c.args in
    message_planned a.self a.piece.now (lent a.work.now a.reply.now) a.time arrays c.ask-asked.result c.look-look.result
    c.plan_piece-plan.result
    c.if-link-eq-WAITING.false c.ask-asked.ensures c.look-look.ensures (rw c.standing-now.ensures at c.plan_piece-plan.ensures) in let k = composed in (k.inside, k.fits)

pub returns : goal.returns
returns c =
    let arrays : Arrays c.args.self.link c.args.self.pending = (search (unmapped, rules), search (unmapped, rules), search (unmapped, rules), search (unmapped, rules)) in
    let composed : let a = c.args in
    let r = c.plan_piece-plan.result in
    Composed r (reply_bytes r.iso r.reply) a.self.table a.self.link a.self.pending a.piece.now (lent a.work.now a.reply.now)
    a.time = let a = c.args in
    message_planned a.self a.piece.now (lent a.work.now a.reply.now) a.time arrays c.ask-asked.result c.look-look.result
    c.plan_piece-plan.result
    c.if-link-eq-WAITING.false c.ask-asked.ensures c.look-look.ensures (rw c.standing-now.ensures at c.plan_piece-plan.ensures) in
    let a = c.args in
    let r = c.plan_piece-plan.result in
    let b = lent a.work.now a.reply.now in
    let bytes = reply_bytes r.iso r.reply in
    let w = c.write_planned-n.ensures in
    rw c.answer_of.ensures (record {
      feeds = feeds_by a.self a.piece.now b (lent _ _) a.time r bytes c.changed-pending.result c.tickets-dropped.result
          c.write_planned-n.result arrays.2 composed c.changed-pending.ensures c.tickets-dropped.ensures w.work_after w.wrote w.reply_len_bound;
      value = fed_by_lem a.self a.piece.now b _ a.time r bytes c.changed-pending.result c.tickets-dropped.result c.write_planned-n.result
          composed c.changed-pending.ensures c.tickets-dropped.ensures w.wrote w.reply_len_bound
          ∙ message-value a.self a.piece.now (length a.work.now) (length a.reply.now) a.time c.ask-asked.result c.look-look.result r
          c.if-link-eq-WAITING.false c.ask-asked.ensures c.look-look.ensures (rw c.standing-now.ensures at c.plan_piece-plan.ensures);
    })
