use Rattle.messages.specs.Messages.{iso_count}
use Rattle.descriptors.proofs.Laws.{refused_front}
use Rattle.model.proofs.Packets.{iso-most}
use Rattle.session.proofs.carry.write_refusal.Goals as goal

pub returns : goal.returns
returns c =
    let r = c.args.ret in
    let all = refused_front (iso_count r.packets) r.status (iso-most r.packets) in
    rw (c.refused_results-each.ensures, c.iso_count-count.ensures.0, all) at c.write_submit_reply.ensures
