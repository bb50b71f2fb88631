use Rattle.std.proofs.Common.{arith}
use Rattle.tape.specs.Layout
use Rattle.tape.proofs.Results.{fill_more}
use Rattle.tape.proofs.iso.results_in.Goals as goal

pub loop-i-preserved : goal.loop-i-preserved
loop-i-preserved c =
    rw (c.loop-i.invariant, c.result_at.ensures) (fill_more c.args.bytes.now Layout.RESULTS-AT c.loop-i.i (omega arith))
