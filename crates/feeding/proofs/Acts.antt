-- A feed, by the verdict on the session's phase and the buffers.
use Prim.Native.Nat.{ℕ, ◌≤◌}
use native.Mathlib.Omega.{arith}
use native.Mathlib.Nat.{zero-add}
use mathlib.Core.Path.{◌≡◌, refl, sym, ap, ◌∙◌}
use mathlib.Core.Bool.{Bool, true, false, cond, not, ◌&&◌}
use mathlib.Core.List.{List, []}
use mathlib.Core.Option.{none, some}
use lib.Dec.{eqb}
use lib.ListN.{length}
use Rattle.exports.specs.declared.device.Table.{Table}
use Rattle.pending.specs.Changes.{changed, keeps}
use Rattle.pending.specs.declared.list.Pending.{Pending}
use Rattle.pending.proofs.Laws.{keep_is}
use Rattle.limits.specs.Limits
use Rattle.ground.specs.Tests.{Test, first, decide, by_first}
use Rattle.verdicts.specs.Verdicts
use Rattle.verdicts.specs.Numbers.{refusal_number}
use Rattle.verdicts.specs.declared.verdict.Refusal.{Refusal}
use Rattle.verdicts.proofs.Deciding.{first_numbered}
use Rattle.verdicts.proofs.Good.{feed_clear}
use Rattle.model.specs.State.{Sess}
use Rattle.model.specs.Acts.{Buffers, feed_tests_of, feed_bytes, done_feed, refused_feed, feed_of}
use Rattle.links.specs.Links.{Parts, whole, counts_fit, progress_fits, phase_of, view_of_parts, Live}
use Rattle.links.specs.declared.link.Link.{Link}
use Rattle.links.proofs.Fits.{waiting_known, attached_known}
use Rattle.links.proofs.Views.{live, live_view}
use Rattle.events.specs.Answers.{event_of}
use Rattle.events.specs.Plans.{Result, tickets_dropped, refused_plan, reply_bytes, request_bytes}
use Rattle.events.specs.declared.answer.Event.{Event as Case}
use Rattle.events.specs.declared.answer.Event.TheVariants.{Refused}
use Rattle.events.specs.declared.plan.Plan.{Plan}
use Rattle.events.specs.declared.plan.RequestPlan.{RequestPlan}
use Rattle.feeding.specs.Planning.{message_plan, request_plan}
use Rattle.feeding.specs.Feeding.{result_of, fed_of, Composed, Arrays, MessageComposed, RequestComposed}
use Rattle.feeding.proofs.Stages.{consuming, fed_from}
use Rattle.feeding.proofs.Pieces.{Feeds}
use Rattle.feeding.proofs.Messages.{attached-feeds}
use Rattle.feeding.proofs.Requests.{waiting_feeds}

module _ (s : Sess) (b : Buffers) (piece : List ℕ) (time : ℕ) where
  feed-refused : (n : ℕ) → first (feed_tests_of s b) ≡ some n → fed_of s b piece time ≡ result_of s piece (refused_feed s b n)
  unfolding fed_of feed_of decide
  feed-refused n f = rw f

  feed_goes : first (feed_tests_of s b) ≡ none → fed_of s b piece time ≡ fed_from time 0 s b piece
  unfolding fed_of feed_of decide fed_from
  feed_goes f =
      let x = result_of s piece (done_feed (feed_bytes s b piece time)) in
      rw f (ap (λ (n : ℕ). consuming n x) (sym (zero-add x.consumed)))

-- in which phase the bytes are taken, as the code tests it: a session that waits or is closed, and one that is attached or is closed
module _ (k : Link) (n : ℕ) where
  abbrev phased : Bool → Bool → ℕ
  phased a b = cond (a && b) k.phase Limits.CLOSED

  closed-waits : k.phase ≡ Limits.WAITING → not (eqb (phase_of k n) Limits.WAITING) ≡ eqb (phase_of k n) Limits.CLOSED
  unfolding phase_of
  closed-waits w = at (counts_fit k.counts n) (progress_fits k.phase k.progress)
    where
      at : (a b : Bool) → not (eqb (phased a b) Limits.WAITING) ≡ eqb (phased a b) Limits.CLOSED
      at true true = rw w
      at true false = refl
      at false b = refl

  closed_away : (k.phase ≡ Limits.WAITING → ⊥) → not (eqb (phase_of k n) Limits.ATTACHED) ≡ eqb (phase_of k n) Limits.CLOSED
  unfolding phase_of
  closed_away w = at (counts_fit k.counts n) (progress_fits k.phase k.progress) refl
    where
      at : (a b : Bool) → progress_fits k.phase k.progress ≡ b → not (eqb (phased a b) Limits.ATTACHED) ≡ eqb (phased a b) Limits.CLOSED
      at true true e = rw (attached_known k.phase k.progress e w).0
      at true false e = refl
      at false b e = refl

-- the plan of a feed, by the verdict on the phase and the buffers
module _ (t : Table) (k : Link) (l : Pending) (piece : List ℕ) (b : Buffers) (time : ℕ) (arrays : Arrays k l) (closed : Bool)
    (e : closed ≡ eqb (phase_of k l.count) Limits.CLOSED) where
  abbrev s : Parts
  s = whole t k l

  abbrev tests : List (Test Refusal)
  tests = Verdicts.feed_refusals closed (length b.work) (length b.reply)

  -- the definitions have their numbers
  tests_are : decide (first tests) (λ r. some (refusal_number r)) none ≡ first (feed_tests_of (view_of_parts s) b)
  tests_are = sym (first_numbered refusal_number tests) ∙ rw e

  kept : changed l (keeps l.count) ≡ l
  kept = keep_is l arrays.2

  -- a refusal says nothing, and leaves all as it was
  composed_refused : (r : Refusal) → first tests ≡ some r → Composed (refused_plan k l.count (refusal_number r)) [] t k l piece b time
  unfolding decide
  composed_refused r f =
      record {
        inside = omega arith;
        fits = omega arith;
        takes = λ _. omega arith;
        fed = rw kept (sym (feed-refused (view_of_parts s) b piece time (refusal_number r) (sym tests_are ∙ rw f)));
        same = λ _ _. (refl, refl);
        tidy = λ h. rw kept h;
      }

  module _ (f : first tests ≡ none) where
    numbers : first (feed_tests_of (view_of_parts s) b) ≡ none
    unfolding decide
    numbers = sym tests_are ∙ rw f

    room : (closed ≡ false) × (Limits.WORK-LEN ≤ length b.work) × (Limits.REPLY-LEN ≤ length b.reply)
    unfolding decide
    room = feed_clear closed (length b.work) (length b.reply) (first_numbered refusal_number tests ∙ rw f)

    -- it isn't closed, and its parts fit together
    lives : Live s
    lives = live s (sym e ∙ room.0)

    -- what is said of bytes isn't a refusal
    never : (bytes : List ℕ) (r : Plan) (n : ℕ) → Feeds bytes r t k l 0 k.progress piece time → r.event ≡ Refused n → ⊥
    unfolding fed_from
    never bytes r n y z =
        let u = r.change.urb in
        let v = ap (λ (x : Case). event_of x u.setup u.iso (tickets_dropped l r.change)) z in
        let q : ◌≡◌ {A = ℕ} 0 1 = cc (v, ap (λ (x : Result). x.event) (y.fed b)) in
        omega arith

    composed_feed : (bytes : List ℕ) (r : Plan) → Feeds bytes r t k l 0 k.progress piece time → Composed r bytes t k l piece b time
    composed_feed bytes r y =
        record {
          inside = y.inside;
          fits = omega (arith, y.room, room.1);
          takes = λ h. omega (arith, room.2);
          fed =
              y.fed b ∙ ap (λ (x : Sess). fed_from time 0 x b piece) (sym (live_view s lives))
              ∙ sym (feed_goes (view_of_parts s) b piece time numbers);
          same = λ n z. absurd (never bytes r n y z);
          tidy = λ h. y.tidy h.list h.head;
        }

-- ## The two feeds

pub message_composed : MessageComposed
unfolding message_plan
message_composed t k l piece b time a w =
    let closed = not (eqb (phase_of k l.count) Limits.ATTACHED) in
    let e = closed_away k l.count w in
    by_first (λ (r : Plan). Composed r (reply_bytes r.iso r.reply) t k l piece b time)
    (first (Verdicts.feed_refusals closed (length b.work) (length b.reply)))
    (composed_refused t k l piece b time a closed e)
    (λ f.
    let h = lives t k l piece b time a closed e f in
    let n = attached_known k.phase k.progress h.1 w in
    composed_feed t k l piece b time a closed e f _ _ (attached-feeds t k l (h.0, n.0) a.2 a.3 piece time a.0 a.1 n.1))

pub request_composed : RequestComposed
unfolding request_plan
request_composed t k l piece b time a ds w =
    let closed = not (eqb (phase_of k l.count) Limits.WAITING) in
    let e = closed-waits k l.count w in
    by_first (λ (r : RequestPlan). Composed r.plan (request_bytes t r.reply) t k l piece b time)
    (first (Verdicts.feed_refusals closed (length b.work) (length b.reply)))
    (composed_refused t k l piece b time a closed e)
    (λ f.
    let h = lives t k l piece b time a closed e f in
    composed_feed t k l piece b time a closed e f _ _
    (waiting_feeds t k l w h.0 a.2 a.3 ds piece time a.0 (waiting_known k.phase k.progress h.1 w)))
