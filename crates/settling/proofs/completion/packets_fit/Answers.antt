use Prim.Native.Nat.{◌≤◌}
use mathlib.Core.Path.{ap, ◌∙◌}
use lib.ListN.{length}
use Rattle.model.specs.Acts.{kind_fits}
use Rattle.settling.proofs.Fitting.{kind_front}
use Rattle.settling.specs.Settling.{kind_of}
use borrow.Author.Rules.{rules}
use Rattle.settling.proofs.completion.packets_fit.Goals as goal

pub returns : goal.returns
returns c =
    let a = c.args in
    let n : c.iso_count.result ≤ length a.iso = search rules in
    c.kind_fits.ensures ∙ kind_front (kind_of a.given) c.iso_count.result a.iso a.given.actual n
    ∙ ap (λ k. kind_fits (kind_of a.given) k a.iso a.given.actual) c.iso_count.ensures.0
