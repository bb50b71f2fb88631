use mathlib.Core.Path.{◌≡◌, sym, ◌∙◌}
use mathlib.Core.Bool.{true, true≢false}
use lib.ListN.{length}
use borrow.Author.Tests.{ne_eqb}
use borrow.Author.Rules.{rules}
use Rattle.ground.proofs.Lists.{unmapped}
use Rattle.limits.specs.Limits.{MAX-PACKETS}
use Rattle.results.specs.Results.{results_of, all_within}
use Rattle.results.proofs.Laws.{another_count, same_count}
use Rattle.results.proofs.results_fit.Goals as goal
use Rattle.results.proofs.results_fit.Goals.{then-r-iso, else-r-iso}

pub returns-then-all_within : goal.returns-then-all_within
returns-then-all_within c =
    let shaped : length c.args.r.list ≡ MAX-PACKETS = search (unmapped, rules) in
    let a = c.args in
    elim c.if-r-iso.branch [
      | then-r-iso w ↦
          let within : all_within a.iso.now (results_of a.r) ≡ true = sym w.all_within.ensures ∙ sym w.value-is ∙ c.if-all_within.true in
          rw (same_count a.iso.now a.r a.total shaped w.if-r-iso.true, within, ← c.sum.ensures)
      | else-r-iso w ↦ absurd (true≢false (sym c.if-all_within.true ∙ w.value-is ∙ ne_eqb a.r.count (length a.iso.now) w.if-r-iso.false))
    ]

pub returns-else-all_within : goal.returns-else-all_within
returns-else-all_within c =
    let shaped : length c.args.r.list ≡ MAX-PACKETS = search (unmapped, rules) in
    let a = c.args in
    elim c.if-r-iso.branch [
      | then-r-iso w ↦ rw (same_count a.iso.now a.r a.total shaped w.if-r-iso.true, ← w.all_within.ensures, ← w.value-is, c.if-all_within.false)
      | else-r-iso w ↦ c.if-all_within.false ∙ another_count a.iso.now a.r a.total shaped w.if-r-iso.false
    ]
