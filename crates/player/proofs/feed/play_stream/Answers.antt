use Prim.Native.Nat.{◌+◌, ◌-◌}
use native.Mathlib.Omega.{arith}
use mathlib.Core.Path.{◌≡◌, refl, ◌∙◌}
use mathlib.Core.Bool.{true, false, ◌||◌}
use lib.Dec.{eqb}
use lib.ListN.{length, drop}
use borrow.Author.Tests.{eq-eqb, ne_eqb}
use borrow.Rule.Slice.PartMut.{same_len_mid}
use Rattle.model.specs.Cut.{lent}
use Rattle.session.specs.Views.{view_of}
use Rattle.player.proofs.Puts.{rest-drop}
use Rattle.player.proofs.Streams.{at_within, stopped, gone_on, used_up, finished}
use Rattle.player.proofs.feed.play_stream.Goals as goal
use Rattle.player.proofs.feed.play_stream.Goals.{then-told-via-then-told, then-told-via-else-told+then-at-bytes}

pub overflow_add-at : goal.overflow_add-at
overflow_add-at c =
    let bytes = c.args.bytes.now in
    let l = c.loop-turn in
    let f = c.feed_once-told in
    omega (arith, at_within (view_of l.s) (lent l.work l.reply) bytes l.at f.result (rw (rest-drop bytes l.at) at f.ensures) l.invariant.0)

pub loop-turn-preserved : goal.loop-turn-preserved
loop-turn-preserved c =
    let bytes = c.args.bytes.now in
    let l = c.loop-turn in
    let s = view_of l.s in
    let b = lent l.work l.reply in
    let f = c.feed_once-told in
    let t = rw (rest-drop bytes l.at) at f.ensures in
    let e : (f.result.end || eqb (l.at + f.result.consumed) (length bytes)) ≡ false = rw c.if-told.false (ne_eqb _ _ (λ q. omega (arith, q, c.if-at-bytes.false))) in (
      at_within s b bytes l.at f.result t l.invariant.0,
      f.auto.work ∙ l.invariant.1,
      f.auto.reply ∙ l.invariant.2,
      same_len_mid l.len (length l.out - l.len) l.out f.new.out f.auto.out ∙ l.invariant.3,
      gone_on s b bytes l.at l.turn l.invariant.4 f.result t l.invariant.0 c.loop-turn-test.true l.invariant.3 f.auto.out e,
    )

pub returns-after-loop-turn : goal.returns-after-loop-turn
returns-after-loop-turn c =
    let l = c.loop-turn in
    let bytes = c.args.bytes.now in
    finished (record { session = l.s; len = l.len }) _ _ _ _
    (used_up c.args.traced (length bytes - l.turn) (drop l.at bytes) (omega arith) l.invariant.4)

pub returns-then-told : goal.returns-then-told
returns-then-told c =
    let bytes = c.args.bytes.now in
    let l = c.loop-turn in
    let f = c.feed_once-told in
    let t = rw (rest-drop bytes l.at) at f.ensures in
    let e : (f.result.end || eqb (l.at + f.result.consumed) (length bytes)) ≡ true =
    elim c.then-told.branch [ then-told-via-then-told w ↦ rw w.if-told.true refl | then-told-via-else-told+then-at-bytes w ↦ rw w.if-told.false (eq-eqb _ _ (omega (arith, w.if-at-bytes.true, at_within (view_of l.s) (lent l.work l.reply) bytes l.at f.result t l.invariant.0))) ] in
    finished (record { session = f.result.session; len = l.len + f.result.len }) _ _ _ _
    (stopped (view_of l.s) (lent l.work l.reply) bytes l.at l.turn l.invariant.4 f.result t l.invariant.0 c.loop-turn-test.true l.invariant.3 f.auto.out e)
