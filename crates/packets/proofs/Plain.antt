-- The tests on packets hold exactly where the plain words do.
use Prim.Native.Nat.{ℕ, zero, suc, ◌+◌, ◌<◌, ◌≤◌}
use mathlib.Core.Path.{◌≡◌, refl, sym, ◌∙◌}
use mathlib.Core.Logic.{◌↔◌}
use mathlib.Core.Bool.{Bool, true, false, and-eq-true_iff}
use mathlib.Core.List.{List, [], ◌∷◌}
use native.Mathlib.Nat.{le_of_suc-le-suc}
use native.Mathlib.Omega.{arith}
use borrow.Author.Count.{below_none}
use borrow.Author.Tests.{leb-true, eqb-true, le-leb, eq-eqb}
use lib.Dec.{eqb, leb}
use lib.ListN.{length}
use Rattle.wire.specs.Codes.{DIR-OUT}
use Rattle.packets.specs.declared.packet.Packet.{Packet}
use Rattle.packets.specs.Packets.{packet_in}
use Rattle.packets.specs.Judging.{end_of, follows, ends_well, good_from, packets_good, end_before, GoodFrom, Good}

-- ## Place by place

each : (P : ℕ → Type 0) (n : ℕ) → P 0 → ((i : ℕ) → i < n → P (suc i)) → (i : ℕ) → i < suc n → P i
each P n z s zero h = z
each P n z s (suc i) h = s i (le_of_suc-le-suc h)

-- behind the first packet
shift : (k : Packet) (ks : List Packet) (i : ℕ) → end_before (end_of k) ks i ≡ end_of (packet_in (k ∷ ks) i)
shift k ks zero = refl
shift k ks (suc i) = refl

-- ## One packet

follows_to : (out : Bool) (len last : ℕ) (k : Packet) → follows out len last k ≡ true
    → (end_of k ≤ len) × (last ≤ k.offset) × (out ≡ true → k.offset ≡ last)
follows_to true len last k h =
    let f = (and-eq-true_iff (leb (end_of k) len) (eqb k.offset last)).0 h in
    let e = eqb-true k.offset last f.1 in
    (leb-true (end_of k) len f.0, omega arith, λ _. e)
follows_to false len last k h =
    let f = (and-eq-true_iff (leb (end_of k) len) (leb last k.offset)).0 h in
    (leb-true (end_of k) len f.0, leb-true last k.offset f.1, λ e. cc)

follows_from : (out : Bool) (len last : ℕ) (k : Packet) → end_of k ≤ len → last ≤ k.offset → (out ≡ true → k.offset ≡ last)
    → follows out len last k ≡ true
follows_from true len last k h b e = rw (le-leb (end_of k) len h) (eq-eqb k.offset last (e refl))
follows_from false len last k h b e = rw (le-leb (end_of k) len h) (le-leb last k.offset b)

ends : (out : Bool) (len last : ℕ) → (out ≡ true → last ≡ len) → ends_well out len last ≡ true
ends true len last e = eq-eqb last len (e refl)
ends false len last e = refl

-- ## All of them

means : (out : Bool) (len last : ℕ) (ks : List Packet) → good_from out len last ks ≡ true → GoodFrom (out ≡ true) len last ks
means out len last [] h =
    record {
      inside = below_none (λ i. (packet_in [] i).offset + (packet_in [] i).length ≤ len);
      ordered = below_none (λ i. end_before last [] i ≤ (packet_in [] i).offset);
      gapless = λ o. below_none (λ i. (packet_in [] i).offset ≡ end_before last [] i);
      whole = λ o. eqb-true last len (rw o at h);
    }
means out len last (k ∷ ks) h =
    let s = (and-eq-true_iff (follows out len last k) (good_from out len (end_of k) ks)).0 h in
    let f = follows_to out len last k s.0 in
    let r = means out len (end_of k) ks s.1 in
    let at = packet_in (k ∷ ks) in
    let n = length ks in
    record {
      inside = each (λ i. (at i).offset + (at i).length ≤ len) n f.0 r.inside;
      ordered = each (λ i. end_before last (k ∷ ks) i ≤ (at i).offset) n f.1 (λ i m. rw (shift k ks i) at (r.ordered i m));
      gapless = λ o. each (λ i. (at i).offset ≡ end_before last (k ∷ ks) i) n (f.2 o) (λ i m. r.gapless o i m ∙ shift k ks i);
      whole = λ o. sym (shift k ks n) ∙ r.whole o;
    }

meant : (out : Bool) (len last : ℕ) (ks : List Packet) → GoodFrom (out ≡ true) len last ks → good_from out len last ks ≡ true
meant out len last [] g = ends out len last g.whole
meant out len last (k ∷ ks) g =
    let r =
    meant out len (end_of k) ks
    (record {
      inside = λ i m. g.inside (suc i) (omega arith);
      ordered = λ i m. rw (shift k ks i) (g.ordered (suc i) (omega arith));
      gapless = λ o i m. g.gapless o (suc i) (omega arith) ∙ sym (shift k ks i);
      whole = λ o. shift k ks (length ks) ∙ g.whole o;
    }) in
    rw (follows_from out len last k (g.inside 0 (omega arith)) (g.ordered 0 (omega arith)) (λ o. g.gapless o 0 (omega arith)), r)

-- a submit's packets pass the test exactly where they are good
pub good_iff : (direction len : ℕ) (ks : List Packet) → (packets_good direction len ks ≡ true) ↔ Good direction len ks
unfolding packets_good
good_iff direction len ks = (
  λ h.
      let g = means (eqb direction DIR-OUT) len 0 ks h in
      let b = eq-eqb direction DIR-OUT in
      record { inside = g.inside; ordered = g.ordered; gapless = λ o. g.gapless (b o); whole = λ o. g.whole (b o) },
  λ g.
      let b = eqb-true direction DIR-OUT in
      meant (eqb direction DIR-OUT) len 0 ks
      (record { inside = g.inside; ordered = g.ordered; gapless = λ o. g.gapless (b o); whole = λ o. g.whole (b o) }),
)
