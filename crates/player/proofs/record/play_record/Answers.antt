use Rattle.model.specs.Cut.{lent}
use Rattle.player.proofs.record.play_record.Goals as goal

pub returns-in-Completion : goal.returns-in-Completion
returns-in-Completion c = rw c.in-Completion.is (c.play_completion.ensures _)

pub returns-in-Iso : goal.returns-in-Iso
returns-in-Iso c =
    let a = c.args in
    rw (c.in-Iso.is, ← c.iso_results-results.ensures.0) (c.play_iso.ensures (lent a.work.now a.reply.now))

pub returns-in-Close : goal.returns-in-Close
returns-in-Close c = rw c.in-Close.is (c.play_close.ensures _)
