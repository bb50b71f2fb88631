use Rattle.std.proofs.Common.{sym, ◌∙◌}
use Rattle.session.proofs.Inquiring.{inquires-closed, inquires_open, stale_closed, stale_open}
use Rattle.session.proofs.state.Session.stale.Goals as goal

pub returns-then-phase-eq-CLOSED : goal.returns-then-phase-eq-CLOSED
returns-then-phase-eq-CLOSED c =
    let a = c.args in
    let h = sym (rw c.standing.ensures at c.phase.ensures) ∙ c.if-phase-eq-CLOSED.true in
    let ts = c.tickets.result in
    record {
      inquires = inquires-closed a.self a.time a.limit ts h c.tickets.ensures;
      value = stale_closed a.self a.time a.limit ts h c.tickets.ensures;
    }

pub returns : goal.returns
returns c =
    let a = c.args in
    let ts = c.stale_tickets.result in
    let e = c.stale_tickets.ensures in
    record {
      inquires = inquires_open a.self a.time a.limit ts (λ z. c.if-phase-eq-CLOSED.false ((rw c.standing.ensures at c.phase.ensures) ∙ z)) e;
      value = stale_open a.self a.time a.limit ts (λ z. c.if-phase-eq-CLOSED.false ((rw c.standing.ensures at c.phase.ensures) ∙ z)) e;
    }
