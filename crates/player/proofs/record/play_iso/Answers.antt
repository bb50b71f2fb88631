use mathlib.Core.Path.{◌≡◌, sym}
use lib.ListN.{length}
use Rattle.ground.proofs.Lists.{unmapped}
use Rattle.limits.specs.Limits.{MAX-PACKETS}
use Rattle.results.specs.Results.{results_of}
use Rattle.results.proofs.Laws.{results_length}
use Rattle.model.specs.Acts.{isochronous}
use Rattle.session.specs.Views.{view_of}
use Rattle.player.proofs.Acts.{completion_played}
use borrow.Author.Rules.{rules}
use Rattle.player.proofs.record.play_iso.Goals as goal

pub returns : goal.returns
returns c =
    let shaped : length c.args.results.list ≡ MAX-PACKETS = search (unmapped, rules) in
    let a = c.args in
    let total = c.iso_total-total.ensures in
    rw (← total)
    (completion_played a.traced (isochronous (results_of a.results)) a.results.count a.ticket a.status c.iso_total-total.result
    c.complete_iso-done.result
    (view_of a.session)
    c.device_data-data.result
    _
    a.out.now
    _
    c.put_completion-len.result
    c.device_data-data.ensures
    (sym (results_length a.results shaped))
    c.complete_iso-done.ensures.completes.said
    c.by_number-answer.result
    c.by_number-answer.ensures
    c.put_completion-len.ensures)
