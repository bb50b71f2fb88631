use mathlib.Core.Path.{sym, ◌∙◌}
use Rattle.pending.proofs.Halving.{look_first, look_more, look_end}
use Rattle.pending.proofs.look.halve.Goals as goal

pub loop-at-init : goal.loop-at-init
loop-at-init c = rw (c.all_places-s.ensures, c.binary_digits-left.ensures) (look_first c.args.ticket c.args.urbs.now)

pub loop-at-preserved : goal.loop-at-preserved
loop-at-preserved c =
    rw (c.look-s.ensures, c.middle-at.ensures)
    (look_more c.args.ticket c.args.urbs.now c.loop-at.left c.loop-at.s (sym c.goes_on.ensures ∙ c.loop-at-test.true) c.loop-at.invariant)

pub returns : goal.returns
returns c = look_end c.args.ticket c.args.urbs.now c.loop-at.left c.loop-at.s (sym c.goes_on.ensures ∙ c.loop-at-test.false) c.loop-at.invariant
