use mathlib.Core.Path.{refl}
use Rattle.model.specs.Acts.{plain}
use Rattle.session.specs.Views.{view_of}
use Rattle.player.proofs.Acts.{completion_played}
use Rattle.player.proofs.record.play_completion.Goals as goal

pub returns : goal.returns
returns c =
    let a = c.args in
    completion_played a.traced plain 0 a.ticket a.status a.actual c.complete-done.result (view_of a.session) c.device_data-data.result _ a.out.now _
    c.put_completion-len.result
    c.device_data-data.ensures
    refl
    c.complete-done.ensures.completes.said
    c.by_number-answer.result
    c.by_number-answer.ensures
    c.put_completion-len.ensures
