use Rattle.session.proofs.Opening.{open_good, open_bad, opens_as}
use Rattle.session.proofs.state.Session.open.Goals as goal

pub returns-then-is_good : goal.returns-then-is_good
returns-then-is_good c =
    let g = open_good c.args.table c.is_good.result c.is_good.ensures c.if-is_good.true in
    opens_as _ _ _ _ c.fresh_session.ensures g

pub returns : goal.returns
returns c =
    let g = open_bad c.args.table c.is_good.result c.is_good.ensures c.if-is_good.false in
    opens_as _ _ _ _ c.fresh_session-2.ensures g
