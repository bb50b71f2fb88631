use mathlib.Core.Path.{◌≡◌, sym, ◌∙◌}
use borrow.Author.Rules.{rules}
use Rattle.std.specs.List.{sum_by}
use Rattle.results.specs.declared.PacketResult.{PacketResult}
use Rattle.results.proofs.Laws.{sum-by, sum-counted}
use Rattle.results.proofs.Results.sum.Goals as goal

pub returns : goal.returns
returns c =
    let n : c.sum.result ≡ sum_by (λ (r : PacketResult). r.actual) c.listed.result.now = search rules in
    n ∙ sym (sum-counted c.args.self.now ∙ rw (← c.listed.ensures.front) (sum-by c.listed.result.now))
