-- The turns of a record's stream bytes.
use Prim.Native.Nat.{ℕ, suc, ◌+◌, ◌-◌, ◌≤◌, ◌<◌}
use native.Mathlib.Omega.{arith}
use mathlib.Core.Path.{◌≡◌, refl, sym, ap, subst, ◌∙◌}
use mathlib.Core.Bool.{Bool, true, false, ◌||◌}
use mathlib.Core.List.{List, [], ◌++◌, append-nil, append_assoc}
use lib.Dec.{eqb}
use lib.ListN.{length, drop, length-drop}
use lib.Seq.{drop-drop}
use borrow.Author.Tests.{eqb-true, eqb-false, eq-eqb, ne_eqb}
use Rattle.model.specs.State.{Sess}
use Rattle.model.specs.Acts.{Buffers}
use Rattle.model.proofs.Corollaries.{consumed-most}
use Rattle.events.specs.Plans.{Result}
use Rattle.feeding.specs.Feeding.{fed_of}
use Rattle.session.specs.Views.{view_of}
use Rattle.player.specs.Prints.{Puts}
use Rattle.player.specs.Play.{result_text, ends_stream, Play, play_stream}
use Rattle.player.specs.Played.{Tells, Plays}
use Rattle.player.specs.declared.feed.Told.{Told}
use Rattle.player.specs.declared.record.Played.{Played}
use Rattle.player.proofs.Puts.{rest, behind, puts_next}

-- A play that was begun: these lines stand there, and what is left makes it whole.
pub record Going (whole left : Play) (entry exit : List ℕ) (len : ℕ) : Type 0 where
  pub text : List ℕ
  pub lines : Puts text entry exit len
  pub rest : whole ≡ record { text = text ++ left.text; next = left.next; buffers = left.buffers }

-- The same with nothing left to put.
abbrev pub Over : Play → Sess → Buffers → (entry exit : List ℕ) → ℕ → Type 0
Over whole s b entry exit len = Going whole (record { text = []; next = s; buffers = b }) entry exit len

-- the end of the bytes, told by the place in them
consumed_up : (at consumed size : ℕ) (c : Bool) → at ≤ size → eqb consumed (size - at) ≡ c → eqb (at + consumed) size ≡ c
consumed_up at consumed size true h e = eq-eqb (at + consumed) size (omega (arith, eqb-true consumed (size - at) e))
consumed_up at consumed size false h e = ne_eqb (at + consumed) size (λ p. eqb-false consumed (size - at) e (omega arith))

-- a feed consumes at most the piece
consumed-within : (s : Sess) (b : Buffers) (piece : List ℕ) → (fed_of s b piece 0).consumed ≤ length piece
unfolding fed_of
consumed-within s b piece = consumed-most s b piece 0

pub at_within : {traced : Bool} (s : Sess) (b : Buffers) (bytes : List ℕ) (at : ℕ) (r : Told) {left : Buffers} {fresh ys : List ℕ}
    → Tells traced r (fed_of s b (drop at bytes) 0) left fresh ys → at ≤ length bytes → at + r.consumed ≤ length bytes
at_within s b bytes at r t h = omega (arith, t.consumed, consumed-within s b (drop at bytes), length-drop at bytes)

-- A feed of the rest of the bytes, told as r: its lines stand behind those that were put.
module _ {traced : Bool} (s : Sess) (b : Buffers) (bytes : List ℕ) (at turn : ℕ) {whole : Play} {entry out : List ℕ} {len : ℕ}
    (g : Going whole (play_stream traced (length bytes - turn) s b (drop at bytes)) entry out len)
    (r : Told) {left : Buffers} {ys : List ℕ} (t : Tells traced r (fed_of s b (drop at bytes) 0) left (rest out len) ys)
    (h : at ≤ length bytes) (l : turn < length bytes) (o : length out ≡ length entry) (k : length ys ≡ length (rest out len)) where
  abbrev result : Result
  result = fed_of s b (drop at bytes) 0

  abbrev stops : Bool
  stops = ends_stream result.event || eqb result.consumed (length (drop at bytes))

  same : (r.end || eqb (at + r.consumed) (length bytes)) ≡ stops
  same = rw (t.last, t.consumed, consumed_up at result.consumed (length bytes) (eqb result.consumed (length bytes - at)) h refl, length-drop) refl

  begun : Going whole (play_stream traced (suc (length bytes - (turn + 1))) s b (drop at bytes)) entry out len
  begun = let e : length bytes - turn ≡ suc (length bytes - (turn + 1)) = omega arith in rw e at g

  -- its lines are put, and T is left
  told : (T : List ℕ) (q : Play) → result_text traced result ++ q.text ≡ T
      → Going whole (record { text = T; next = q.next; buffers = q.buffers }) entry out len
      → Going whole q entry (behind out len ys) (len + r.len)
  told T q e g' =
      record {
        text = g'.text ++ result_text traced result;
        lines = puts_next g'.lines t.lines o k;
        rest =
            g'.rest
            ∙ ap (λ (l : List ℕ). record { text = l; next = q.next; buffers = q.buffers })
            (ap (λ (l : List ℕ). g'.text ++ l) (sym e) ∙ sym (append_assoc g'.text (result_text traced result) q.text));
      }

  -- nothing more is fed
  pub stopped : (r.end || eqb (at + r.consumed) (length bytes)) ≡ true → Over whole (view_of r.session) left entry (behind out len ys) (len + r.len)
  unfolding play_stream
  stopped e =
      rw (t.next, t.buffers)
      (told _ (record { text = []; next = result.next; buffers = result.buffers }) (append-nil (result_text traced result)) (rw (sym same ∙ e) at begun))

  -- the rest is
  pub gone_on : (r.end || eqb (at + r.consumed) (length bytes)) ≡ false
      → Going whole (play_stream traced (length bytes - (turn + 1)) (view_of r.session) left (drop (at + r.consumed) bytes)) entry (behind out len ys) (len + r.len)
  unfolding play_stream
  gone_on e =
      let q = play_stream traced (length bytes - (turn + 1)) result.next result.buffers (drop result.consumed (drop at bytes)) in
      rw (t.next, t.buffers, t.consumed, ← (drop-drop result.consumed at bytes)) (told _ q refl (rw (sym same ∙ e) at begun))

-- no turn is left
pub used_up : (traced : Bool) (n : ℕ) (bytes : List ℕ) {s : Sess} {b : Buffers} {entry exit : List ℕ} {len : ℕ} {whole : Play} → n ≡ 0
    → Going whole (play_stream traced n s b bytes) entry exit len → Over whole s b entry exit len
unfolding play_stream
used_up traced n bytes e g = rw e at g

pub finished : (r : Played) (whole : Play) (b : Buffers) (entry exit : List ℕ) → Over whole (view_of r.session) b entry exit r.len → Plays r whole b entry exit
finished r whole b entry exit g =
    record {
      next = sym (ap (λ (p : Play). p.next) g.rest);
      buffers = sym (ap (λ (p : Play). p.buffers) g.rest);
      lines = subst (λ (t : List ℕ). Puts t entry exit r.len) (sym (ap (λ (p : Play). p.text) g.rest ∙ append-nil g.text)) g.lines;
    }
