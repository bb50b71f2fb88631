-- The whole goes out, in order, within as many steps as it has bytes.
use Prim.Native.Nat.{ℕ, zero, suc, ◌+◌, ◌-◌, ◌≤◌, min}
use native.Mathlib.Omega.{arith}
use mathlib.Core.Bool.{Bool, true, false, cond}
use mathlib.Core.List.{List, [], ◌++◌, flatten}
use mathlib.Core.Logic.{inl}
use mathlib.Core.Path.{◌≡◌, refl, sym, ap₂, ◌∙◌, subst₃}
use lib.Dec.{eqb}
use lib.ListN.{length, take, drop}
use lib.Seq.{take-add}
use borrow.Author.Tests.{eqb-true}
use Rattle.wire.specs.Codes.{HEADER-LEN, DIR-IN}
use Rattle.transmit.specs.Part.{next, behind, segments, part_of, sent_after, out_after, Sends, SentWhole, ReplySent}
use Rattle.transmit.proofs.Segments.{next_in_place, next-within, next_at_most, next-advances, next-empty_iff}
use Rattle.transmit.proofs.Parts.{flatten_segments, segments-length, part-next}

module _ (ss : List (List ℕ)) (most : ℕ → ℕ) where
  in_order : (k : ℕ) → out_after (next ss) most k ≡ take (sent_after (next ss) most k) (flatten ss)
  in_order zero = refl
  in_order (suc k) =
      let sent = sent_after (next ss) most k in
      ap₂ ◌++◌ (in_order k) (next_in_place ss sent (most k)) ∙ sym (take-add sent (length (next ss sent (most k))) (flatten ss))

  never_past : (k : ℕ) → sent_after (next ss) most k ≤ length (flatten ss)
  never_past zero = omega arith
  never_past (suc k) = omega (arith, never_past k, next-within ss (sent_after (next ss) most k) (most k))

  advances : ((k : ℕ) → 1 ≤ most k) → (k : ℕ) → min k (length (flatten ss)) ≤ sent_after (next ss) most k
  advances m zero = omega arith
  advances m (suc k) = omega (arith, advances m k, next-advances ss (sent_after (next ss) most k) (most k) (m k))

-- any list of segments
pub segments_sent : (ss : List (List ℕ)) → Sends (next ss) (flatten ss) (length (flatten ss))
segments_sent ss =
    record {
      size = refl;
      at_most = λ most k. next_at_most ss (sent_after (next ss) most k) (most k);
      in_order = in_order ss;
      never_past = never_past ss;
      advances = advances ss;
      all_out = λ most m k h. (
        omega (arith, advances ss most m k, never_past ss most k),
        (next-empty_iff ss (sent_after (next ss) most k) (most k)).1 (inl (omega (arith, advances ss most m k))),
      );
    }

-- a header, data and descriptors
pub sent_whole : SentWhole
sent_whole header frame n p h f =
    subst₃ Sends (λ i sent most. sym (part-next header frame n p h f sent most) i) (flatten_segments header frame n p)
    (segments-length header frame n p h f) (segments_sent (segments header frame n p))

-- the reply to a completion
pub reply_sent : ReplySent
reply_sent header frame direction actual p h f = go (eqb direction DIR-IN) refl
  where
    go : (t : Bool) → eqb direction DIR-IN ≡ t
        → Sends (part_of header frame (HEADER-LEN + cond t actual 0 + behind p - HEADER-LEN - behind p) p)
        (take HEADER-LEN header ++ cond t (take actual frame) [] ++ take (behind p) (drop HEADER-LEN header)) (HEADER-LEN + cond t actual 0 + behind p)
    go true e =
        let z : HEADER-LEN + actual + behind p - HEADER-LEN - behind p ≡ actual = omega arith in
        rw z (sent_whole header frame actual p h (f (eqb-true direction DIR-IN e)))
    go false e =
        let z : HEADER-LEN + 0 + behind p - HEADER-LEN - behind p ≡ 0 = omega arith in
        rw z (sent_whole header frame 0 p h (omega arith))
