use native.Mathlib.Omega.{arith}
use Rattle.descriptors.proofs.Laws.{written_none, written_more, written_each}
use Rattle.descriptors.proofs.write_descriptors.Goals as goal

pub returns-then-out-results : goal.returns-then-out-results
returns-then-out-results c = written_none c.args.iso.now c.args.results.now c.args.out.now (omega arith)

pub loop-i-preserved : goal.loop-i-preserved
loop-i-preserved c =
    let a = c.args in
    written_more a.iso.now a.results.now c.loop-i.i a.out.now c.loop-i.out c.write_descriptor.new.out c.packet_in.result c.write_descriptor.result
    (omega arith) (omega arith) c.loop-i.auto.out c.loop-i.invariant c.packet_in.ensures c.write_descriptor.ensures

pub returns : goal.returns
returns c =
    let a = c.args in
    written_each a.iso.now a.results.now c.loop-i.i a.out.now c.loop-i.out (omega arith) (omega arith) c.loop-i.invariant
