-- Descriptors read one after the other, and the array that packets stand in.
use Prim.Native.Nat.{ℕ, zero, suc, ◌+◌, ◌-◌, ◌*◌, ◌<◌, ◌≤◌}
use mathlib.Core.Path.{◌≡◌, refl, sym, ap, ◌∙◌}
use mathlib.Core.Bool.{Bool, true, false}
use mathlib.Core.List.{List, [], ◌∷◌, ◌++◌}
use native.Mathlib.Numerals.{add-one}
use native.Mathlib.Omega.{arith}
use borrow.Author.Tests.{leb-true, leb-false}
use lib.Dec.{leb}
use lib.ListN.{length, take, drop, set, replicate, length-append, length-drop, length-replicate, take-append-drop}
use Rattle.std.proofs.lemmas.List.{drop-replicate}
use lib.Seq.{take-suc-set, drop-drop, take_at, take_all, drop-append-le, length-take-le}
use Rattle.wire.specs.Codes.{DESCRIPTOR-LEN, PACKET-OFFSET-AT, PACKET-LENGTH-AT}
use Rattle.wire.specs.Fields.{field}
use Rattle.wire.proofs.Heads.{field_stays}
use Rattle.limits.specs.Limits.{MAX-PACKETS}
use Rattle.packets.specs.declared.packet.Packet.{Packet}
use Rattle.packets.specs.Packets.{no_packet, packet_at, packets_of, in_array}

-- ## The array

pub array_length : (ks : List Packet) → length ks ≤ MAX-PACKETS → length (in_array ks) ≡ MAX-PACKETS
array_length ks h = simp (length-append, length-replicate) (omega arith)

-- the packets in front are the packets
pub take_in_array : (ks : List Packet) → take (length ks) (in_array ks) ≡ ks
take_in_array ks = take_at ks (replicate (MAX-PACKETS - length ks) no_packet) (length ks) refl

-- ## As many as the count says

pub packets_length : (n : ℕ) (l : List ℕ) → length (packets_of n l) ≡ n
packets_length zero l = refl
packets_length (suc n) l = ap suc (packets_length n (drop DESCRIPTOR-LEN l))

pub in_array_length : (n : ℕ) (l : List ℕ) → n ≤ MAX-PACKETS → length (in_array (packets_of n l)) ≡ MAX-PACKETS
in_array_length n l h = array_length (packets_of n l) (omega (arith, packets_length n l))

pub packets_in_array : (n : ℕ) (l : List ℕ) → take n (in_array (packets_of n l)) ≡ packets_of n l
packets_in_array n l = ap (λ (m : ℕ). take m (in_array (packets_of n l))) (sym (packets_length n l)) ∙ take_in_array (packets_of n l)

-- ## One more

-- a descriptor behind others
packet-drop : (at k : ℕ) (l : List ℕ) → packet_at at (drop k l) ≡ packet_at (k + at) l
packet-drop at k l =
    let a : k + (at + PACKET-OFFSET-AT) ≡ k + at + PACKET-OFFSET-AT = omega arith in
    let b : k + (at + PACKET-LENGTH-AT) ≡ k + at + PACKET-LENGTH-AT = omega arith in
    rw (drop-drop (at + PACKET-OFFSET-AT) k l, drop-drop (at + PACKET-LENGTH-AT) k l, a, b)

packets_snoc : (n : ℕ) (l : List ℕ) → packets_of (suc n) l ≡ packets_of n l ++ (packet_at (n * DESCRIPTOR-LEN) l ∷ [])
packets_snoc zero l = refl
packets_snoc (suc n) l =
    let m = n * DESCRIPTOR-LEN in
    let e : DESCRIPTOR-LEN + m ≡ suc n * DESCRIPTOR-LEN = omega arith in
    let d = packet-drop m DESCRIPTOR-LEN l ∙ ap (λ (k : ℕ). packet_at k l) e in
    ap (λ (r : List Packet). packet_at 0 l ∷ r)
    (packets_snoc n (drop DESCRIPTOR-LEN l) ∙ ap (λ (k : Packet). packets_of n (drop DESCRIPTOR-LEN l) ++ (k ∷ [])) d)

-- the array, filled in from the front
pub read_more : (ps : List Packet) (i : ℕ) (l : List ℕ) → i < length ps → take i ps ≡ packets_of i l
    → take (i + 1) (set ps i (packet_at (i * DESCRIPTOR-LEN) l)) ≡ packets_of (i + 1) l
read_more ps i l h e = rw add-one (take-suc-set ps i (packet_at (i * DESCRIPTOR-LEN) l) h ∙ rw e (sym (packets_snoc i l)))

pub read_all : (ps : List Packet) (n i : ℕ) (l : List ℕ) → length ps ≡ n → n ≤ i → take i ps ≡ packets_of i l
    → ps ++ drop n (in_array []) ≡ in_array (packets_of n l)
read_all ps n i l h m e =
    let all : ps ≡ packets_of i l = sym (take_all i ps (omega arith)) ∙ e in
    let k : i ≡ n = sym (ap length all ∙ packets_length i l) ∙ h in
    rw (all, k, packets_length n l, drop-replicate n MAX-PACKETS no_packet)

-- ## What stands behind the descriptors doesn't change them

packet_is : (l r : List ℕ) → field 4 0 l ≡ field 4 0 r → field 4 4 l ≡ field 4 4 r → packet_at 0 l ≡ packet_at 0 r
packet_is l r o s = λ i. record { offset = o i; length = s i }

pub packets_stay : (n : ℕ) (l r : List ℕ) → n * DESCRIPTOR-LEN ≤ length l → packets_of n (l ++ r) ≡ packets_of n l
packets_stay zero l r h = refl
packets_stay (suc n) l r h =
    let first = packet_is (l ++ r) l (field_stays 4 0 l r (omega arith)) (field_stays 4 4 l r (omega arith)) in
    let rest = packets_stay n (drop DESCRIPTOR-LEN l) r (rw length-drop (omega arith)) in
    rw (first, drop-append-le DESCRIPTOR-LEN l r (omega arith), rest)

pub packets_front : (n : ℕ) (l : List ℕ) → packets_of n (take (n * DESCRIPTOR-LEN) l) ≡ packets_of n l
packets_front n l = by (leb (n * DESCRIPTOR-LEN) (length l)) refl
  where
    by : (c : Bool) → leb (n * DESCRIPTOR-LEN) (length l) ≡ c → packets_of n (take (n * DESCRIPTOR-LEN) l) ≡ packets_of n l
    by true e =
        let m = n * DESCRIPTOR-LEN in
        let h = leb-true m (length l) e in
        sym (packets_stay n (take m l) (drop m l) (omega (arith, length-take-le m l h))) ∙ ap (packets_of n) (take-append-drop m l)
    by false e =
        let m = n * DESCRIPTOR-LEN in
        ap (packets_of n) (take_all m l (omega (arith, leb-false m (length l) e)))
