-- The walk over the packets: what is left gives the whole answer.
use Prim.Native.Nat.{ℕ, ◌+◌, ◌<◌, ◌≤◌}
use mathlib.Core.Path.{◌≡◌, refl, sym, ◌∙◌}
use mathlib.Core.Bool.{Bool, true, false}
use mathlib.Core.List.{List}
use lib.Dec.{eqb}
use lib.ListN.{length, drop}
use Rattle.ground.proofs.Walks.{next, past}
use Rattle.wire.specs.Codes.{DIR-OUT}
use Rattle.packets.specs.declared.packet.Packet.{Packet}
use Rattle.packets.specs.Packets.{no_packet, packet_in}
use Rattle.packets.specs.Judging.{end_of, follows, ends_well, good_from, packets_good}

module _ (direction len : ℕ) (ks : List Packet) where
  abbrev out : Bool
  out = eqb direction DIR-OUT

  abbrev pub Left : (last i : ℕ) → Type 0
  Left last i = packets_good direction len ks ≡ good_from out len last (drop i ks)

  pub start : Left 0 0
  unfolding packets_good
  start = refl

  pub bad : (last i : ℕ) → i < length ks → Left last i → follows out len last (packet_in ks i) ≡ false → false ≡ packets_good direction len ks
  bad last i h s e = sym (s ∙ next (good_from out len last) no_packet ks i h ∙ rw e)

  pub good : (last i : ℕ) → i < length ks → Left last i → follows out len last (packet_in ks i) ≡ true
      → (next : ℕ) → next ≡ end_of (packet_in ks i) → Left next (i + 1)
  good last i h s e n x = s ∙ next (good_from out len last) no_packet ks i h ∙ rw (e, x)

  pub done : (last i : ℕ) → length ks ≤ i → Left last i → ends_well out len last ≡ packets_good direction len ks
  done last i h s = sym (s ∙ past (good_from out len last) ks i h)
