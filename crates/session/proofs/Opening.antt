-- What open hands back is what the definitions say.
use Prim.Native.Nat.{ℕ}
use mathlib.Core.Path.{◌≡◌, refl, sym, subst}
use mathlib.Core.Bool.{Bool, true, false}
use Rattle.exports.specs.declared.device.Table.{Table}
use Rattle.tables.specs.Tables.{good_table}
use Rattle.pending.proofs.Laws.{empty-whole, empty_sound}
use Rattle.limits.specs.Limits
use Rattle.ground.specs.Tests.{pick}
use Rattle.model.specs.Acts.{no_table, open_of}
use Rattle.links.specs.Links.{fresh_link, phase_of}
use Rattle.links.proofs.Tidy.{none-padded}
use Rattle.std.specs.Prelude.{Result, Ok, Err, ⊤}
use Rattle.verdicts.specs.declared.verdict.Refusal.{Refusal}
use Rattle.verdicts.specs.declared.verdict.Refusal.TheVariants.{BadTable}
use Rattle.session.specs.Views.{fresh_session, Tidy}
use Rattle.session.specs.Acts.{Opens}
use Rattle.session.specs.declared.state.Session.{Session}

pub fresh-tidy : (t : Table) (phase : ℕ) → phase ≡ phase_of (fresh_link phase) 0 → Tidy (fresh_session t phase)
fresh-tidy t phase h = record { list = (empty-whole, empty_sound); head = none-padded; phase = h }

module _ (t : Table) where
  pub open_good : (b : Bool) → b ≡ good_table t → b ≡ true → Opens t (record { session = fresh_session t Limits.WAITING; answer = Ok tt })
  unfolding open_of pick phase_of
  open_good b e h = record { answer = rw (← e, h); next = rw (← e, h); tidy = fresh-tidy t Limits.WAITING refl }

  pub open_bad : (b : Bool) → b ≡ good_table t → b ≡ false
      → Opens t (record { session = fresh_session (no_table t) Limits.CLOSED; answer = Err BadTable })
  unfolding open_of pick phase_of
  open_bad b e h = record { answer = rw (← e, h); next = rw (← e, h); tidy = fresh-tidy (no_table t) Limits.CLOSED refl }

  pub opens_as : (s z : Session) (a : Result ⊤ Refusal) → s ≡ z → Opens t (record { session = z; answer = a }) → Opens t (record { session = s; answer = a })
  opens_as s z a e h = subst (λ (x : Session). Opens t (record { session = x; answer = a })) (sym e) h
