-- Good packets (PROTOCOL.md, 6), once as tests that are computed and once in plain words.
use Rattle.std.specs.Prelude.{ℕ, zero, suc, ◌+◌, ◌≤◌, ◌<◌, ◌≡◌, Bool, true, cond, ◌&&◌, List, [], ◌∷◌, eqb, leb, length}
use Rattle.wire.specs.Codes.{DIR-OUT}
use Rattle.packets.specs.declared.packet.Packet.{Packet}
use Rattle.packets.specs.Packets.{packet_in}

-- Where a packet ends: an exact sum.
abbrev pub end_of : Packet → ℕ
end_of k = k.offset + k.length

-- A packet behind one that ends at `last`: inside the transfer, and it starts there, or (IN) there or later.
abbrev pub follows : (out : Bool) → (len last : ℕ) → Packet → Bool
follows out len last k = leb (end_of k) len && cond out (eqb k.offset last) (leb last k.offset)

-- The last packet of an OUT transfer ends with it.
abbrev pub ends_well : (out : Bool) → (len last : ℕ) → Bool
ends_well out len last = cond out (eqb last len) true

abbrev pub good_from : (out : Bool) → (len last : ℕ) → List Packet → Bool
good_from out len last [] = ends_well out len last
good_from out len last (k ∷ ks) = follows out len last k && good_from out len (end_of k) ks

unfoldable pub packets_good : (direction len : ℕ) → List Packet → Bool
packets_good direction len ks = good_from (eqb direction DIR-OUT) len 0 ks

-- ## In plain words

-- Where the packet before place i ends; before the first, `first`.
abbrev pub end_before : ℕ → List Packet → ℕ → ℕ
end_before first ks zero = first
end_before first ks (suc i) = end_of (packet_in ks i)

-- "Each packet's offset plus length must be at most the transfer length, each starting at or after the last one's end, and OUT packets fill
-- the buffer without gaps"
pub record GoodFrom (Out : Type 0) (len first : ℕ) (ks : List Packet) : Type 0 where
  pub inside : (i : ℕ) → i < length ks → (packet_in ks i).offset + (packet_in ks i).length ≤ len
  pub ordered : (i : ℕ) → i < length ks → end_before first ks i ≤ (packet_in ks i).offset
  pub gapless : Out → (i : ℕ) → i < length ks → (packet_in ks i).offset ≡ end_before first ks i
  pub whole : Out → end_before first ks (length ks) ≡ len

abbrev pub Good : (direction len : ℕ) → List Packet → Type 0
Good direction len ks = GoodFrom (direction ≡ DIR-OUT) len 0 ks
