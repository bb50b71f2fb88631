use Rattle.player.proofs.Puts.{puts_wrote, puts_traced}
use Rattle.player.proofs.text.put_feed.Goals as goal

-- the lines of a trace behind those of a replay
pub returns-then-traced : goal.returns-then-traced
returns-then-traced c =
    puts_traced (puts_wrote _ _ _ _ c.feed_lines-n.ensures) (c.put_traced.ensures c.args.dropped) c.feed_lines-n.auto.out c.put_traced.auto.out
    c.if-traced.true
