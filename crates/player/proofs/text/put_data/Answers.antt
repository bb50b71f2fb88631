use native.Mathlib.Omega.{arith}
use mathlib.Core.List.{[]}
use Rattle.player.proofs.Puts.{puts_wrote, puts_next}
use Rattle.player.proofs.text.put_data.Goals as goal

-- the record's line stands there
pub slice_bounds-trace_data-count : goal.slice_bounds-trace_data-count
slice_bounds-trace_data-count c = (puts_wrote _ _ _ _ (c.trace_record-n.ensures 0 [])).within

pub slice_bounds-trace_data-start : goal.slice_bounds-trace_data-start
slice_bounds-trace_data-start c = omega (arith, (puts_wrote _ _ _ _ (c.trace_record-n.ensures 0 [])).within)

-- the data behind the record
pub returns : goal.returns
returns c arrival iso =
    puts_next (puts_wrote _ _ _ _ (c.trace_record-n.ensures arrival iso))
    (rw (c.front.ensures, c.data_len-size.ensures) at (puts_wrote _ _ _ _ c.trace_data.ensures))
    c.trace_record-n.auto.out
    c.trace_data.auto.out
