use Rattle.std.proofs.Common.{◌≡◌, drop}
use Rattle.tape.specs.Layout
use Rattle.tape.proofs.Results.{filled}
use Rattle.tape.proofs.iso.results_in.Given as goal

abbrev pub invariant-loop-i : goal.invariant-loop-i
invariant-loop-i l = l.list ≡ filled l.i (drop Layout.RESULTS-AT l.bytes)
