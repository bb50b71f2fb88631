use Rattle.std.proofs.Common.{rules, ◌≡◌}
use Rattle.std.specs.Prelude.{replicate}
use Rattle.pending.specs.Pending.{blank}
use Rattle.pending.proofs.Walks.{blanks_put}
use Rattle.pending.proofs.change.blank_first.Goals as goal

pub returns : goal.returns
returns c =
    let blanks : c.fill.new.self ≡ replicate c.min-end.result blank = search rules in
    rw (blanks, c.min-end.ensures) (blanks_put c.args.urbs.now c.args.n)
