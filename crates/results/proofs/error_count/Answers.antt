use mathlib.Core.Path.{◌≡◌, sym, ◌∙◌}
use mathlib.Core.Bool.{not}
use lib.Dec.{eqb}
use borrow.Author.Rules.{rules}
use Rattle.std.specs.List.{count_by}
use Rattle.results.specs.declared.PacketResult.{PacketResult}
use Rattle.results.proofs.Laws.{errors-by, errors-counted}
use Rattle.results.proofs.error_count.Goals as goal

pub returns : goal.returns
returns c =
    let n : c.count.result ≡ count_by (λ (r : PacketResult). not (eqb r.status 0)) c.listed.result.now = search rules in
    n ∙ sym (errors-counted c.args.r ∙ rw (← c.listed.ensures.front) (errors-by c.listed.result.now))
