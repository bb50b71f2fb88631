use Prim.Native.Nat.{◌+◌}
use Rattle.links.specs.Links.{plus}
use Rattle.limits.specs.Limits
use borrow.Author.Tests.{le-leb, lt-leb}
use native.Mathlib.Omega.{arith}
use Rattle.links.proofs.link.count_plus.Goals as goal

pub returns-then-count-more : goal.returns-then-count-more
unfolding plus
returns-then-count-more c = let a = c.args in rw (lt-leb (a.count + a.more) Limits.LAST-TICKET (omega (arith, c.if-count-more.true)))

pub returns : goal.returns
unfolding plus
returns c = let a = c.args in rw (le-leb (a.count + a.more) Limits.LAST-TICKET (omega (arith, c.if-count-more.false)))
