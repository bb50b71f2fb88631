use native.Mathlib.Omega.{arith}
use Rattle.player.proofs.Puts.{puts_wrote, puts_next}
use Rattle.player.proofs.text.put_submit.Goals as goal

-- the record and the data stand there
pub slice_bounds-trace_packets-count : goal.slice_bounds-trace_packets-count
slice_bounds-trace_packets-count c = (c.put_data-n.ensures 0 c.args.iso).within

pub slice_bounds-trace_packets-start : goal.slice_bounds-trace_packets-start
slice_bounds-trace_packets-start c = omega (arith, (c.put_data-n.ensures 0 c.args.iso).within)

-- the packets behind them
pub returns : goal.returns
returns c arrival =
    puts_next (c.put_data-n.ensures arrival c.args.iso) (puts_wrote _ _ _ _ c.trace_packets.ensures) c.put_data-n.auto.out c.trace_packets.auto.out
