-- A submit's packets, and what a completion says of them, in the words of the claims.
use Prim.Native.Nat.{ℕ, zero, suc, ◌+◌, ◌-◌, ◌*◌, ◌≤◌, ◌<◌}
use native.Mathlib.Omega.{arith}
use mathlib.Core.Path.{◌≡◌, refl, sym, ap, ◌∙◌}
use mathlib.Core.Logic.{◌↔◌, inl, inr, ⊎_elim}
use mathlib.Core.List.{List, [], ◌∷◌, ◌++◌}
use mathlib.Core.Bool.{Bool, true, false, cond, not, true≢false}
use lib.Dec.{eqb, leb, ltb}
use lib.ListN.{length, take, drop, replicate}
use lib.Seq.{drop-drop}
use borrow.Author.Tests.{lt-ltb, le-ltb, le-leb, lt-leb, ne_eqb, eqb-true, eqb-false, ltb-true, ltb-false}
use Rattle.wire.specs.Codes
use Rattle.wire.specs.BigEndian.{number_of}
use Rattle.messages.specs.Messages.{header_of, iso_count}
use Rattle.messages.specs.declared.message.Transfer.{Transfer}
use Rattle.packets.specs.Judging.{Good}
use Rattle.packets.specs.Packets.{no_packet, packet_in, packet_at, packets_of, in_array}
use Rattle.packets.specs.declared.packet.Packet.{Packet}
use Rattle.packets.proofs.Plain.{good_iff}
use Rattle.packets.proofs.Reading.{packets_length, in_array_length}
use Rattle.results.specs.Results.{results_fit}
use Rattle.results.proofs.Fitting.{unfit_iff}
use Rattle.limits.specs.Limits
use Rattle.pending.specs.declared.urb.Urb.{Urb}
use Rattle.ground.proofs.Cases.{by_cond}
use Rattle.ground.proofs.Tests.{not_iff, iff_trans}
use Rattle.model.specs.State.{submit_packets}
use Rattle.model.specs.Judging.{bad_packets, urb_of}
use Rattle.model.specs.Acts.{Kind, plain, isochronous, results_in, kind_fits}
use Rattle.model.specs.Claims.{header, Misfit, descriptors_at, descriptor_count, sent_packets, BadPackets, CarriesPackets}

-- ## How many

-- an isochronous transfer has number_of_packets descriptors, any other none
pub iso_case : {A : Type 0} (n : ℕ) → ((1 ≤ n) × (n ≤ Limits.MAX-PACKETS) → iso_count n ≡ n → A)
    → (((1 ≤ n) × (n ≤ Limits.MAX-PACKETS) → ⊥) → iso_count n ≡ 0 → A) → A
iso_case {A} n f g = past (ltb Limits.MAX-PACKETS n) refl
  where
    some : (c : Bool) → eqb n 0 ≡ c → n ≤ Limits.MAX-PACKETS → A
    some true e l =
        let z = eqb-true n 0 e in
        g (λ i. omega (arith, i.0)) (rw (le-ltb Limits.MAX-PACKETS n l) z)
    some false e l =
        let z = eqb-false n 0 e in
        f (omega (arith, z), l) (rw (le-ltb Limits.MAX-PACKETS n l))

    past : (c : Bool) → ltb Limits.MAX-PACKETS n ≡ c → A
    past true e =
        let l = ltb-true Limits.MAX-PACKETS n e in
        g (λ i. omega (arith, i.1)) (rw e)
    past false e = some (eqb n 0) refl (ltb-false Limits.MAX-PACKETS n e)

pub iso-most : (n : ℕ) → iso_count n ≤ Limits.MAX-PACKETS
iso-most n = iso_case n (λ i e. rw e i.1) (λ i e. rw e (omega arith))

-- as the claims count them
count_is : (n : ℕ) → cond (leb n Limits.MAX-PACKETS) n 0 ≡ iso_count n
count_is n = go (ltb Limits.MAX-PACKETS n) refl
  where
    go : (c : Bool) → ltb Limits.MAX-PACKETS n ≡ c → cond (leb n Limits.MAX-PACKETS) n 0 ≡ iso_count n
    go true e = let l = ltb-true Limits.MAX-PACKETS n e in rw (e, lt-leb n Limits.MAX-PACKETS l)
    go false e = let l = ltb-false Limits.MAX-PACKETS n e in rw (e, le-leb n Limits.MAX-PACKETS l)

pub counted_as : (h : List ℕ) → descriptor_count h ≡ iso_count (header_of h).transfer.packets
counted_as h = count_is (header_of h).transfer.packets

-- ## Whether they are good

pub packets_are : (m : List ℕ) → submit_packets (header_of (header m)) (drop (descriptors_at (header m)) m) ≡ sent_packets m
packets_are m = ap (λ n. packets_of n (drop (descriptors_at (header m)) m)) (sym (counted_as (header m)))

judged_iff : (u : Transfer) (ks : List Packet) → (bad_packets u ks ≡ true) ↔ ((0 < length ks) × (Good u.direction u.length ks → ⊥))
judged_iff u ks =
    let bad = not_iff (good_iff u.direction u.length ks) in
    by_cond (λ b. (b ≡ true) ↔ ((0 < length ks) × (Good u.direction u.length ks → ⊥))) (eqb (length ks) 0)
    (λ e. let z = eqb-true (length ks) 0 e in ((λ h. absurd (true≢false (sym h))), λ p. absurd (omega (arith, z, p.0))))
    (λ e. let z = eqb-false (length ks) 0 e in ((λ h. (omega (arith, z), bad.0 h)), λ p. bad.1 p.1))

pub bad_iff : (m : List ℕ)
    → let h = header_of (header m) in (bad_packets h.transfer (submit_packets h (drop (descriptors_at (header m)) m)) ≡ true) ↔ BadPackets m
bad_iff m =
    let u = (header_of (header m)).transfer in
    let l : length (sent_packets m) ≡ iso_count u.packets = packets_length (descriptor_count (header m)) _ ∙ counted_as (header m) in
    rw (packets_are m)
    (iso_case u.packets
    (λ i e. iff_trans (judged_iff u (sent_packets m)) ((λ p. (i, p.1)), λ p. (omega (arith, l, e, i.0), p.1)))
    (λ i e. iff_trans (judged_iff u (sent_packets m)) ((λ p. absurd (omega (arith, l, e, p.0))), λ p. absurd (i p.0))))

-- ## The record keeps them

-- a descriptor behind some bytes
packet-behind : (k at : ℕ) (l : List ℕ) → packet_at at (drop k l) ≡ packet_at (k + at) l
packet-behind k at l =
    let a : k + (at + Codes.PACKET-OFFSET-AT) ≡ k + at + Codes.PACKET-OFFSET-AT = omega arith in
    let b : k + (at + Codes.PACKET-LENGTH-AT) ≡ k + at + Codes.PACKET-LENGTH-AT = omega arith in
    let p = drop-drop (at + Codes.PACKET-OFFSET-AT) k l ∙ ap (λ n. drop n l) a in
    let q = drop-drop (at + Codes.PACKET-LENGTH-AT) k l ∙ ap (λ n. drop n l) b in
    λ i. record { offset = number_of (take 4 (p i)); length = number_of (take 4 (q i)) }

-- the packet at a place is that of the descriptor there
packet-place : (n i : ℕ) (l : List ℕ) → i < n → packet_in (packets_of n l) i ≡ packet_at (i * Codes.DESCRIPTOR-LEN) l
packet-place zero i l h = absurd (omega arith)
packet-place (suc n) zero l h = refl
packet-place (suc n) (suc i) l h =
    let k = i * Codes.DESCRIPTOR-LEN in
    let e : Codes.DESCRIPTOR-LEN + k ≡ suc i * Codes.DESCRIPTOR-LEN = omega arith in
    packet-place n i (drop Codes.DESCRIPTOR-LEN l) (omega arith) ∙ packet-behind Codes.DESCRIPTOR-LEN k l ∙ ap (λ n. packet_at n l) e

-- in the array, too, and the places behind are blank
in_front : (ks rest : List Packet) (i : ℕ) → i < length ks → packet_in (ks ++ rest) i ≡ packet_in ks i
in_front [] rest i h = absurd (omega arith)
in_front (k ∷ ks) rest zero h = refl
in_front (k ∷ ks) rest (suc i) h = in_front ks rest i (omega arith)

blank-behind : (ks : List Packet) (n i : ℕ) → length ks ≤ i → packet_in (ks ++ replicate n no_packet) i ≡ no_packet
blank-behind [] zero i h = refl
blank-behind [] (suc n) zero h = refl
blank-behind [] (suc n) (suc i) h = blank-behind [] n i (omega arith)
blank-behind (k ∷ ks) n zero h = absurd (omega arith)
blank-behind (k ∷ ks) n (suc i) h = blank-behind ks n i (omega arith)

pub carries_packets : (ticket time : ℕ) (m : List ℕ) → CarriesPackets m (urb_of ticket time (header_of (header m)) (drop (descriptors_at (header m)) m))
carries_packets ticket time m =
    let at = descriptors_at (header m) in
    let n = iso_count (header_of (header m)).transfer.packets in
    let ks = packets_of n (drop at m) in
    let l = packets_length n (drop at m) in
    let c = counted_as (header m) in
    let placed : (i : ℕ) → i < descriptor_count (header m) → packet_in (in_array ks) i ≡ packet_at (at + i * Codes.DESCRIPTOR-LEN) m =
    λ i h.
    in_front ks (replicate (Limits.MAX-PACKETS - length ks) no_packet) i (omega (arith, l, c)) ∙ packet-place n i (drop at m) (omega (arith, c))
    ∙ packet-behind at (i * Codes.DESCRIPTOR-LEN) m in
    record {
      places = in_array_length n (drop at m) (iso-most (header_of (header m)).transfer.packets);
      offsets = λ i h. ap (λ (k : Packet). k.offset) (placed i h);
      lengths = λ i h. ap (λ (k : Packet). k.length) (placed i h);
      blank = λ i h. blank-behind ks (Limits.MAX-PACKETS - length ks) i (omega (arith, l, c));
    }

-- ## What a completion says of them

not_true_iff : (t : Bool) → (not t ≡ true) ↔ (t ≡ false)
not_true_iff true = ((λ h. absurd (true≢false (sym h))), λ h. absurd (true≢false h))
not_true_iff false = ((λ _. refl), λ _. refl)

pub misfit_iff : (k : Kind) (total : ℕ) (u : Urb)
    → (not (kind_fits k (iso_count u.transfer.packets) u.iso total) ≡ true) ↔ Misfit k total u
misfit_iff plain total u =
    iso_case u.transfer.packets
    (λ i e. rw (e, ne_eqb u.transfer.packets 0 (λ z. omega (arith, i.0))) ((λ _. i), λ _. refl))
    (λ i e. rw e ((λ h. absurd (true≢false (sym h))), λ j. absurd (i j)))
misfit_iff (isochronous rs) total u =
    let n = u.transfer.packets in
    iso_case n
    (λ i e.
    let f = iff_trans (not_true_iff (results_fit n u.iso rs total)) (unfit_iff n u.iso rs total) in
    rw (e, lt-ltb 0 n i.0) ((λ h. inr (f.0 h)), ⊎_elim (λ j. absurd (j i)) f.1))
    (λ i e. rw e ((λ _. inl i), λ _. refl))

-- a completion that fits has a result for each packet
pub fits_many : (k : Kind) (total : ℕ) (u : Urb) → (Misfit k total u → ⊥) → iso_count u.transfer.packets ≡ length (results_in k)
fits_many plain total u f = iso_case u.transfer.packets (λ i e. absurd (f i)) (λ i e. e)
fits_many (isochronous rs) total u f =
    let n = u.transfer.packets in
    iso_case n (λ i e. e ∙ sym (equal (eqb (length rs) n) refl)) (λ i e. absurd (f (inl i)))
  where
    equal : (c : Bool) → eqb (length rs) u.transfer.packets ≡ c → length rs ≡ u.transfer.packets
    equal true e = eqb-true (length rs) u.transfer.packets e
    equal false e = absurd (f (inr (inl (eqb-false (length rs) u.transfer.packets e))))
