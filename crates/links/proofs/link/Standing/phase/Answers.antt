use Rattle.links.proofs.Fits.{odd_by_counts, odd_by_progress, phase_fit}
use mathlib.Core.Bool.{true}
use mathlib.Core.Path.{ap}
use mathlib.Core.Bool.{not}
use Rattle.links.proofs.link.Standing.phase.Goals as goal

pub returns-then-not-counts_fit : goal.returns-then-not-counts_fit
returns-then-not-counts_fit c =
    odd_by_counts c.args.self.link c.args.self.pending c.counts_fit.result true c.counts_fit.ensures (ap not c.if-not-counts_fit.true)

pub returns-then-not-progress_fits : goal.returns-then-not-progress_fits
returns-then-not-progress_fits c =
    odd_by_progress c.args.self.link c.args.self.pending true c.progress_fits.result
    c.progress_fits.ensures (ap not c.if-not-progress_fits.true)

pub returns : goal.returns
returns c =
    let a = c.args in
    phase_fit a.self.link a.self.pending c.counts_fit.result c.progress_fits.result c.counts_fit.ensures (ap not c.if-not-counts_fit.false)
    c.progress_fits.ensures (ap not c.if-not-progress_fits.false)
