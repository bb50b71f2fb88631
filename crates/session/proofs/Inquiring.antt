-- What an inquiry hands back is what the definitions say.
use Prim.Native.Nat.{ℕ}
use mathlib.Core.Path.{◌≡◌}
use lib.ListN.{take, length-map}
use borrow.Author.Tests.{eq-eqb, ne_eqb}
use Rattle.ages.specs.Ages.{stale_in}
use Rattle.pending.specs.Pending.{ticket_of, list_of, listing}
use Rattle.pending.specs.declared.list.Tickets.{Tickets}
use Rattle.pending.proofs.Laws.{tickets_view}
use Rattle.limits.specs.Limits
use Rattle.ground.specs.Tests.{pick}
use Rattle.model.specs.Acts.{stale_of}
use Rattle.links.specs.Links.{phase_of}
use Rattle.std.specs.Prelude.{Ok, Err}
use Rattle.verdicts.specs.declared.verdict.Refusal.TheVariants.{SessionClosed}
use Rattle.session.specs.Values.{stale_value}
use Rattle.session.specs.Acts.{Inquires}
use Rattle.session.specs.declared.state.Session.{Session}
use Rattle.session.specs.declared.answer.Inquired.{Inquired}

module _ (s : Session) (time limit : ℕ) (ts : Tickets) where
  pub inquires-closed : phase_of s.link s.pending.count ≡ Limits.CLOSED → ts ≡ listing (take 0 (list_of s.pending))
      → Inquires s time limit (record { answer = Err SessionClosed; stale = ts })
  unfolding stale_of pick
  inquires-closed h e = record { said = rw h; listed = rw h e }

  pub inquires_open : (phase_of s.link s.pending.count ≡ Limits.CLOSED → ⊥) → ts ≡ listing (stale_in time limit (list_of s.pending))
      → Inquires s time limit (record { answer = Ok tt; stale = ts })
  unfolding stale_of pick
  inquires_open h e =
      let us = stale_in time limit (list_of s.pending) in
      let o = ne_eqb _ _ h in
      record { said = rw (o, e, tickets_view us); listed = rw (o, e, length-map us ticket_of) }

  pub stale_closed : phase_of s.link s.pending.count ≡ Limits.CLOSED → ts ≡ listing (take 0 (list_of s.pending))
      → let r : Inquired = record { answer = Err SessionClosed; stale = ts } in
      r ≡ stale_value s time limit
  unfolding stale_value
  stale_closed h e = rw (eq-eqb _ _ h) (λ i. record { answer = Err SessionClosed; stale = e i })

  pub stale_open : (phase_of s.link s.pending.count ≡ Limits.CLOSED → ⊥) → ts ≡ listing (stale_in time limit (list_of s.pending))
      → let r : Inquired = record { answer = Ok tt; stale = ts } in
      r ≡ stale_value s time limit
  unfolding stale_value
  stale_open h e = rw (ne_eqb _ _ h) (λ i. record { answer = Ok tt; stale = e i })
