-- A reply's descriptors say the packets that they were written for, whatever follows.
use Prim.Native.Nat.{ℕ, suc, ◌^◌, ◌<◌}
use mathlib.Core.Path.{◌≡◌, refl, ap, ◌∙◌}
use mathlib.Core.List.{List, [], ◌∷◌, ◌++◌, append_assoc}
use native.Mathlib.Omega.{arith}
use lib.ListN.{length, drop}
use lib.Seq.{drop_at}
use Rattle.wire.specs.Codes.{DESCRIPTOR-LEN}
use Rattle.wire.specs.Fields.{u32}
use Rattle.wire.proofs.Heads.{field-pack}
use Rattle.packets.specs.declared.packet.Packet.{Packet}
use Rattle.packets.specs.Packets.{packet_at, packets_of}
use Rattle.results.specs.declared.PacketResult.{PacketResult}
use Rattle.descriptors.specs.Descriptors.{described, descriptor, descriptors_of}
use Rattle.descriptors.proofs.Laws.{descriptor-length}

-- their numbers have 32 bits
abbrev pub Fitting : List Packet → Type 0
Fitting [] = Unit {0}
Fitting (k ∷ ks) = (k.offset < 256 ^ 4) × (k.length < 256 ^ 4) × Fitting ks

packet_again : (k : Packet) (r : PacketResult) (rest : List ℕ) → k.offset < 256 ^ 4 → k.length < 256 ^ 4
    → packet_at 0 (descriptor (described k r) ++ rest) ≡ k
packet_again k r rest o l =
    let more = u32 r.actual ∷ u32 r.status ∷ [] in
    let a = field-pack [] (u32 k.offset) (u32 k.length ∷ more) rest o in
    let b = field-pack (u32 k.offset ∷ []) (u32 k.length) more rest l in
    λ i. record { offset = a i; length = b i }

packets_cons : (D J : List ℕ) (n : ℕ) (k : Packet) → length D ≡ DESCRIPTOR-LEN → packet_at 0 (D ++ J) ≡ k
    → packets_of (suc n) (D ++ J) ≡ k ∷ packets_of n J
packets_cons D J n k l e =
    ap (λ (p : Packet). p ∷ packets_of n (drop DESCRIPTOR-LEN (D ++ J))) e
    ∙ ap (λ (r : List ℕ). k ∷ packets_of n r) (drop_at D J DESCRIPTOR-LEN l)

pub packets_again : (ks : List Packet) (rs : List PacketResult) (rest : List ℕ) → length ks ≡ length rs → Fitting ks
    → packets_of (length ks) (descriptors_of ks rs ++ rest) ≡ ks
unfolding descriptors_of
packets_again [] [] rest e f = refl
packets_again [] (r ∷ rs) rest e f = absurd (omega arith)
packets_again (k ∷ ks) [] rest e f = absurd (omega arith)
packets_again (k ∷ ks) (r ∷ rs) rest e f =
    let d = described k r in
    let J = descriptors_of ks rs ++ rest in
    ap (packets_of (suc (length ks))) (append_assoc (descriptor d) (descriptors_of ks rs) rest)
    ∙ packets_cons (descriptor d) J (length ks) k (descriptor-length d) (packet_again k r J f.0 f.1)
    ∙ ap (λ (l : List Packet). k ∷ l) (packets_again ks rs rest (omega arith) f.2)
