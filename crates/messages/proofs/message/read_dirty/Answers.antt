use Rattle.std.proofs.Common.{rules, sym, ◌∙◌}
use Rattle.messages.proofs.Padding.{dirty_front, dirty_back, clean}
use Rattle.messages.proofs.message.read_dirty.Goals as goal

pub returns-in-Some : goal.returns-in-Some
returns-in-Some c = dirty_front c.args.head.now (search rules) (sym c.in-Some.is ∙ c.first_set.ensures)

pub returns-in-Some-first_set : goal.returns-in-Some-first_set
returns-in-Some-first_set c = dirty_back c.args.head.now (search rules) (sym c.in_default.is ∙ c.first_set.ensures) (sym c.in-Some-first_set.is ∙ c.first_set-2.ensures)

pub returns : goal.returns
returns c = clean c.args.head.now (search rules) (sym c.in_default.is ∙ c.first_set.ensures) (sym c.in_default-first_set.is ∙ c.first_set-2.ensures)
