-- What the guard gives a session that waits.
use Prim.Native.Nat.{ℕ, ◌+◌, ◌-◌, ◌≤◌, ◌<◌}
use mathlib.Core.Path.{◌≡◌, refl, sym, ap, ◌∙◌}
use mathlib.Core.Bool.{Bool, true, false, not, cond, ◌&&◌, true≢false}
use mathlib.Core.Option.{none, some}
use mathlib.Core.List.{List}
use borrow.Author.Tests.{eqb-true, eq-eqb, ne_eqb, le-ltb}
use lib.ListN.{length, take}
use native.Mathlib.Omega.{arith}
use lib.Dec.{eqb}
use Rattle.wire.specs.Codes
use Rattle.limits.specs.Limits
use Rattle.messages.specs.Messages.{request_of}
use Rattle.messages.specs.declared.request.Request.{Request}
use Rattle.exports.specs.declared.device.Table.{Table}
use Rattle.ground.specs.Tests.{first, decide}
use Rattle.verdicts.specs.Verdicts.{feed_refusals, request_tests}
use Rattle.verdicts.specs.declared.verdict.Fault.{Fault}
use Rattle.links.specs.Links.{counts_fit, progress_fits, fits, phase_of}
use Rattle.links.specs.declared.link.Link.{Link}
use Rattle.links.specs.declared.link.Progress.{Progress}
use Rattle.links.proofs.Fits.{waiting_known}
use Rattle.events.specs.Plans.{broken_plan, silent_plan, list_plan}
use Rattle.events.specs.declared.plan.RequestPlan.{RequestPlan}
use Rattle.feeding.specs.Asking.{grown}
use Rattle.feeding.specs.Planning.{busid_plan, head_plan}

first_open : (c : Bool) (work reply : ℕ) → first (feed_refusals (not c) work reply) ≡ none → c ≡ true
first_open true work reply h = refl
first_open false work reply h = cc

-- a feed that isn't refused for the phase
pub waits : (k : Link) (n work reply : ℕ) → first (feed_refusals (not (eqb (phase_of k n) Limits.WAITING)) work reply) ≡ none
    → k.progress.filled < Codes.OP-LEN + Codes.BUSID-LEN
unfolding phase_of
waits k n work reply h = at (fits k n) refl (eqb-true _ _ (first_open (eqb (phase_of k n) Limits.WAITING) work reply h))
  where
    both : (a b : Bool) → a && b ≡ true → b ≡ true
    both true b h = h
    both false b h = absurd (true≢false (sym h))

    at : (f : Bool) → fits k n ≡ f → cond f k.phase Limits.CLOSED ≡ Limits.WAITING → k.progress.filled < Codes.OP-LEN + Codes.BUSID-LEN
    at true e w = waiting_known k.phase k.progress (both (counts_fit k.counts n) (progress_fits k.phase k.progress) e) w
    at false e w = absurd (omega (arith, w))

-- ## A request's head

-- the plan of a head that is in, by what was read of it
module _ (t : Table) (k : Link) (n : ℕ) (piece : List ℕ) where
  abbrev need : ℕ
  need = Codes.OP-LEN - k.progress.filled

  unfoldable headed : Progress → Request → RequestPlan
  headed q r =
      decide (first (request_tests r)) (λ f. silent_plan (broken_plan k n f need))
      (cond (eqb r.code Codes.OP-REQ-DEVLIST) (list_plan k n need) (busid_plan t k n q piece need))

  -- the part that the code lends is the one that the plan speaks of
  module _ (q : Progress) (r : Request) (e : q ≡ grown k.progress (take need piece)) (f : r ≡ request_of q.head) (l : need ≤ length piece) where
    head_is : headed q r ≡ head_plan t k n piece
    unfolding headed
    head_is =
        let g = f ∙ ap (λ (z : Progress). request_of z.head) e in
        (λ i. headed (e i) (g i)) ∙ sym (rw (le-ltb (length piece) need l))

    pub head-breaks : (x : Fault) → first (request_tests r) ≡ some x → silent_plan (broken_plan k n x need) ≡ head_plan t k n piece
    unfolding headed decide
    head-breaks x h = sym (rw h) ∙ head_is

    pub head-lists : first (request_tests r) ≡ none → r.code ≡ Codes.OP-REQ-DEVLIST → list_plan k n need ≡ head_plan t k n piece
    unfolding headed decide
    head-lists h c = sym (rw (h, eq-eqb r.code Codes.OP-REQ-DEVLIST c)) ∙ head_is

    pub head_goes : first (request_tests r) ≡ none → (r.code ≡ Codes.OP-REQ-DEVLIST → ⊥) → busid_plan t k n q piece need ≡ head_plan t k n piece
    unfolding headed decide
    head_goes h c = sym (rw (h, ne_eqb r.code Codes.OP-REQ-DEVLIST c)) ∙ head_is
