-- What holds where no row of a table does.
use Prim.Native.Nat.{ℕ, ◌≤◌}
use mathlib.Core.Path.{◌≡◌, refl, ap}
use mathlib.Core.Bool.{Bool, true, false, not}
use mathlib.Core.Logic.{inl, inr}
use mathlib.Core.Option.{none}
use Rattle.limits.specs.Limits
use Rattle.ground.specs.Tests.{first}
use Rattle.ground.proofs.Cases.{not_less, never_true}
use Rattle.verdicts.specs.Verdicts
use Rattle.std.specs.Prelude.{is_none, Option as Maybe, Some, None}
use Rattle.verdicts.specs.declared.verdict.Named.{Named}
use Rattle.verdicts.specs.declared.verdict.Completing.{Completing}
use Rattle.ground.proofs.Match.{clear}
use Rattle.verdicts.proofs.Tables.{iff_refl, feed_match, completion_match}

pub feed_clear : (closed : Bool) (work reply : ℕ) → first (Verdicts.feed_tests closed work reply) ≡ none
    → (closed ≡ false) × (Limits.WORK-LEN ≤ work) × (Limits.REPLY-LEN ≤ reply)
feed_clear closed work reply f =
    let m = feed_match closed work reply (closed ≡ true) iff_refl in
    let k = clear (Verdicts.feed_tests closed work reply) (Verdicts.feed_rows (closed ≡ true) work reply) m f in
    (never_true closed k.0, not_less work Limits.WORK-LEN (λ l. k.1.0 (inl l)), not_less reply Limits.REPLY-LEN (λ l. k.1.0 (inr l)))

pub completion_clear : (c : Completing) → first (Verdicts.completion_tests c) ≡ none
    → (c.closed ≡ false) × (Limits.HEADER-ROOM ≤ c.header) × ((u : Named) × (c.urb ≡ Some u) × (u.fits ≡ true))
completion_clear c f =
    let rows = Verdicts.completion_rows c (c.closed ≡ true) (is_none c.urb ≡ true) Of Unfit in
    let m = completion_match c (c.closed ≡ true) (is_none c.urb ≡ true) Of Unfit iff_refl iff_refl
    (λ u e P. ((λ p. (u, e, p)), λ w. let q : w.0 ≡ u = same w.0 u w.1 e in rw q at w.2))
    (λ u e. ((λ p. (u, e, p)), λ w. let q : w.0 ≡ u = same w.0 u w.1 e in rw q at w.2)) in
    let k = clear (Verdicts.completion_tests c) rows m f in (
      never_true c.closed k.0,
      not_less c.header Limits.HEADER-ROOM k.1.0,
      named c.urb refl k.1.1.0 (λ w. k.1.1.1.1.0 (inr w)),
    )
  where
    Of : (ℕ → ℕ → Type 0) → Type 0
    Of P = (u : Named) × (c.urb ≡ Some u) × P u.length u.direction

    Unfit : Type 0
    Unfit = (u : Named) × (c.urb ≡ Some u) × (not u.fits ≡ true)

    same : (u v : Named) → c.urb ≡ Some u → c.urb ≡ Some v → u ≡ v
    same u v d e = cc (d, e)

    back : (b : Bool) → (not b ≡ true → ⊥) → b ≡ true
    back true h = refl
    back false h = absurd (h refl)

    named : (o : Maybe Named) → c.urb ≡ o → (is_none c.urb ≡ true → ⊥) → (Unfit → ⊥) → (u : Named) × (c.urb ≡ Some u) × (u.fits ≡ true)
    named None e n h = absurd (n (ap is_none e))
    named (Some u) e n h = (u, e, back u.fits (λ b. h (u, e, b)))
