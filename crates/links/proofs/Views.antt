-- The view of a session: with the phase of its link where its parts fit together, closed where they don't.
use Prim.Native.Nat.{ℕ, ◌≤◌, ◌<◌}
use mathlib.Core.Path.{◌≡◌, refl}
use mathlib.Core.Bool.{Bool, true, false, cond, ◌&&◌, true≢false}
use borrow.Author.Tests.{lt-ltb, le-ltb}
use lib.Dec.{eqb}
use lib.ListN.{take}
use Rattle.wire.specs.Codes
use Rattle.exports.specs.declared.device.Table.{Table}
use Rattle.pending.specs.declared.counts.Counts.{Counts}
use Rattle.pending.specs.declared.list.Pending.{Pending}
use Rattle.limits.specs.Limits
use Rattle.model.specs.State.{partly, headed, with_link, in_phase}
use Rattle.links.specs.Links.{Parts, counts_fit, progress_fits, phase_of, descriptors_in, message_of, bare_of, view_of_parts, whole, resting, Live}
use Rattle.links.specs.declared.link.Progress.{Progress}

-- the message in progress, while its header grows and once it is read
pub message-partly : (p : Progress) → p.filled < Codes.HEADER-LEN → message_of p ≡ partly (take p.filled p.head)
message-partly p h = rw (lt-ltb p.filled Codes.HEADER-LEN h)

pub message-headed : (p : Progress) → Codes.HEADER-LEN ≤ p.filled → message_of p ≡ headed p.header p.body (descriptors_in p)
message-headed p h = rw (le-ltb p.filled Codes.HEADER-LEN h)

-- the view of a session whose parts fit together, and of one that is closed
pub view_fit : (s : Parts) → counts_fit s.link.counts s.pending.count ≡ true → progress_fits s.link.phase s.link.progress ≡ true
    → view_of_parts s ≡ bare_of s
unfolding phase_of
view_fit s c p = rw (c, p)

-- a session that isn't closed
module _ (s : Parts) where
  pub live : eqb (phase_of s.link s.pending.count) Limits.CLOSED ≡ false → Live s
  unfolding phase_of
  live h = at (counts_fit s.link.counts s.pending.count) (progress_fits s.link.phase s.link.progress) h
    where
      at : (a b : Bool) → eqb (cond (a && b) s.link.phase Limits.CLOSED) Limits.CLOSED ≡ false → (a ≡ true) × (b ≡ true)
      at true true h = (refl, refl)
      at true false h = absurd (true≢false h)
      at false b h = absurd (true≢false h)

  pub live_view : Live s → view_of_parts s ≡ bare_of s
  live_view l = view_fit s l.0 l.1

pub view_closed : (s : Parts) → s.link.phase ≡ Limits.CLOSED → view_of_parts s ≡ bare_of s
unfolding phase_of
view_closed s e = rw e (at (counts_fit s.link.counts s.pending.count && progress_fits Limits.CLOSED s.link.progress))
  where
    at : (c : Bool)
        → with_link (in_phase (cond c Limits.CLOSED Limits.CLOSED) (bare_of s).link) (bare_of s) ≡ with_link (in_phase Limits.CLOSED (bare_of s).link) (bare_of s)
    at true = refl
    at false = refl

-- with no message in progress
pub view_shut : (t : Table) (devid : ℕ) (c : Counts) (p : Pending)
    → view_of_parts (whole t (resting Limits.CLOSED devid c) p) ≡ bare_of (whole t (resting Limits.CLOSED devid c) p)
view_shut t devid c p = view_closed (whole t (resting Limits.CLOSED devid c) p) refl

pub view_attached : (t : Table) (devid : ℕ) (c : Counts) (p : Pending) → counts_fit c p.count ≡ true
    → view_of_parts (whole t (resting Limits.ATTACHED devid c) p) ≡ bare_of (whole t (resting Limits.ATTACHED devid c) p)
view_attached t devid c p h = view_fit (whole t (resting Limits.ATTACHED devid c) p) h refl
