use Rattle.player.proofs.Puts.{puts_wrote, puts_traced}
use Rattle.player.proofs.text.put_completion.Goals as goal

-- the line of a trace behind that of a replay
pub returns-then-traced : goal.returns-then-traced
returns-then-traced c =
    puts_traced (puts_wrote _ _ _ _ c.complete_line-n.ensures) (puts_wrote _ _ _ _ c.trace_header.ensures) c.complete_line-n.auto.out
    c.trace_header.auto.out
    c.if-traced.true
