-- The descriptors one after the other, a packet for each result.
use Prim.Native.Nat.{ℕ, zero, suc, ◌+◌, ◌-◌, ◌*◌, ◌<◌, ◌≤◌}
use mathlib.Core.Path.{◌≡◌, refl, sym, ap, ◌∙◌}
use mathlib.Core.List.{List, [], ◌∷◌, ◌++◌}
use native.Mathlib.Nat.{not-suc-le-zero, le_of_suc-le-suc}
use native.Mathlib.Omega.{arith}
use lib.ListN.{length, take, drop, get_or, replicate}
use Rattle.std.proofs.lemmas.List.{take-replicate}
use lib.Seq.{length-take-le, take_all}
use Rattle.ground.specs.Lists.{joined}
use Rattle.ground.specs.Writing.{over, Wrote}
use Rattle.ground.proofs.Lists.{joined-more, joined_length}
use Rattle.ground.proofs.Parts.{wrote_none, wrote_over, written_next}
use Rattle.limits.specs.Limits.{MAX-PACKETS}
use Rattle.wire.specs.Codes.{DESCRIPTOR-LEN}
use Rattle.wire.specs.Fields.{u32}
use Rattle.wire.proofs.Heads.{pack-length}
use Rattle.packets.specs.declared.packet.Packet.{Packet}
use Rattle.packets.specs.Packets.{no_packet, packet_in, in_array}
use Rattle.results.specs.declared.PacketResult.{PacketResult}
use Rattle.results.specs.Results.{packet_result, no_result, result_in}
use Rattle.descriptors.specs.Descriptors.{Described, described, descriptor, paired, descriptors_of, refused_results}

-- ## A packet for each result

paired-length : (ks : List Packet) (rs : List PacketResult) → length (paired ks rs) ≡ length rs
paired-length ks [] = refl
paired-length [] (r ∷ rs) = ap suc (paired-length [] rs)
paired-length (k ∷ ks) (r ∷ rs) = ap suc (paired-length ks rs)

paired-take : (n : ℕ) (ks : List Packet) (rs : List PacketResult) → paired ks (take n rs) ≡ take n (paired ks rs)
paired-take zero ks rs = refl
paired-take (suc n) ks [] = refl
paired-take (suc n) [] (r ∷ rs) = ap (λ (ds : List Described). described no_packet r ∷ ds) (paired-take n [] rs)
paired-take (suc n) (k ∷ ks) (r ∷ rs) = ap (λ (ds : List Described). described k r ∷ ds) (paired-take n ks rs)

paired_at : (ks : List Packet) (rs : List PacketResult) (i : ℕ) (z : Described) → i < length rs
    → get_or (paired ks rs) i z ≡ described (packet_in ks i) (result_in rs i)
paired_at ks [] i z h = absurd (not-suc-le-zero h)
paired_at [] (r ∷ rs) zero z h = refl
paired_at [] (r ∷ rs) (suc i) z h = paired_at [] rs i z (le_of_suc-le-suc h)
paired_at (k ∷ ks) (r ∷ rs) zero z h = refl
paired_at (k ∷ ks) (r ∷ rs) (suc i) z h = paired_at ks rs i z (le_of_suc-le-suc h)

-- blank packets behind change nothing
paired-blank : (n : ℕ) (rs : List PacketResult) → paired (replicate n no_packet) rs ≡ paired [] rs
paired-blank zero rs = refl
paired-blank (suc n) [] = refl
paired-blank (suc n) (r ∷ rs) = ap (λ (ds : List Described). described no_packet r ∷ ds) (paired-blank n rs)

paired-behind : (ks : List Packet) (n : ℕ) (rs : List PacketResult) → paired (ks ++ replicate n no_packet) rs ≡ paired ks rs
paired-behind [] n rs = paired-blank n rs
paired-behind (k ∷ ks) n [] = refl
paired-behind (k ∷ ks) n (r ∷ rs) = ap (λ (ds : List Described). described k r ∷ ds) (paired-behind ks n rs)

pub descriptors_in_array : (ks : List Packet) (rs : List PacketResult) → descriptors_of (in_array ks) rs ≡ descriptors_of ks rs
unfolding descriptors_of
descriptors_in_array ks rs = ap (joined descriptor) (paired-behind ks (MAX-PACKETS - length ks) rs)

-- ## Bytes

pub descriptor-length : (d : Described) → length (descriptor d) ≡ DESCRIPTOR-LEN
descriptor-length d =
    pack-length (u32 d.packet.offset ∷ u32 d.packet.length ∷ u32 d.result.actual ∷ u32 d.result.status ∷ [])

pub descriptors_length : (ks : List Packet) (rs : List PacketResult) → length (descriptors_of ks rs) ≡ length rs * DESCRIPTOR-LEN
unfolding descriptors_of
descriptors_length ks rs =
    joined_length descriptor DESCRIPTOR-LEN descriptor-length (paired ks rs)
    ∙ ap (λ (n : ℕ). n * DESCRIPTOR-LEN) (paired-length ks rs)

pub front_length : (n : ℕ) (ks : List Packet) (rs : List PacketResult) → n ≤ length rs
    → length (descriptors_of ks (take n rs)) ≡ n * DESCRIPTOR-LEN
front_length n ks rs h = descriptors_length ks (take n rs) ∙ ap (λ (m : ℕ). m * DESCRIPTOR-LEN) (length-take-le n rs h)

-- one more
pub descriptors_more : (ks : List Packet) (rs : List PacketResult) (i : ℕ) (B : List ℕ) → i < length rs
    → B ≡ descriptor (described (packet_in ks i) (result_in rs i))
    → descriptors_of ks (take i rs) ++ B ≡ descriptors_of ks (take (i + 1) rs)
unfolding descriptors_of
descriptors_more ks rs i B h e =
    let z = described no_packet no_result in
    let ds = paired ks rs in
    rw (paired-take i ks rs, paired-take (i + 1) ks rs)
    (ap (λ (b : List ℕ). joined descriptor (take i ds) ++ b) (e ∙ ap descriptor (sym (paired_at ks rs i z h)))
    ∙ joined-more descriptor ds i z (omega (arith, paired-length ks rs)))

-- the next one, written behind those that stand in a buffer already
pub written_more : (ks : List Packet) (rs : List PacketResult) (i : ℕ) (D out ys : List ℕ) (k : Packet) (count : ℕ) → i < length rs
    → length rs * DESCRIPTOR-LEN ≤ length D → length out ≡ length D → out ≡ over (descriptors_of ks (take i rs)) D → k ≡ packet_in ks i
    → Wrote (descriptor (described k (result_in rs i))) (take (length out - i * DESCRIPTOR-LEN) (drop (i * DESCRIPTOR-LEN) out)) ys count
    → take (i * DESCRIPTOR-LEN) out ++ (ys ++ drop (length out - i * DESCRIPTOR-LEN) (drop (i * DESCRIPTOR-LEN) out))
    ≡ over (descriptors_of ks (take (i + 1) rs)) D
written_more ks rs i D out ys k count h room l s e w =
    let d = described k (result_in rs i) in
    let W = descriptors_of ks (take i rs) in
    let fits : i * DESCRIPTOR-LEN + length (descriptor d) ≤ length out = rw (descriptor-length d) (omega arith) in
    let more = descriptors_more ks rs i (descriptor d) h (rw e refl) in
    rw (← more)
    (written_next D out W (descriptor d) ys (i * DESCRIPTOR-LEN) (length out) count refl (front_length i ks rs (omega arith)) s fits w)

pub written_each : (ks : List Packet) (rs : List PacketResult) (i : ℕ) (D out : List ℕ) → length rs ≤ i
    → length rs * DESCRIPTOR-LEN ≤ length D → out ≡ over (descriptors_of ks (take i rs)) D
    → Wrote (descriptors_of ks rs) D out (length rs * DESCRIPTOR-LEN)
written_each ks rs i D out h room s =
    let n = descriptors_length ks rs in
    wrote_over (descriptors_of ks rs) D out (length rs * DESCRIPTOR-LEN) (omega arith) (rw (take_all i rs h) at s) (sym n)

pub written_none : (ks : List Packet) (rs : List PacketResult) (D : List ℕ) → length D < length rs * DESCRIPTOR-LEN
    → Wrote (descriptors_of ks rs) D D 0
written_none ks rs D h = wrote_none (descriptors_of ks rs) D (omega (arith, descriptors_length ks rs))

-- ## A submit that is refused

pub refused_front : (count status : ℕ) → count ≤ MAX-PACKETS
    → take count (replicate MAX-PACKETS (packet_result 0 status)) ≡ refused_results count status
refused_front count status h = take-replicate count MAX-PACKETS (packet_result 0 status) h
