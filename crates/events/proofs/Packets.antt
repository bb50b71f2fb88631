-- A submit's packets as the code reads them.
use Prim.Native.Nat.{ℕ}
use mathlib.Core.Path.{◌≡◌, ap, ◌∙◌}
use mathlib.Core.List.{List}
use lib.ListN.{take}
use Rattle.messages.specs.Messages.{iso_count}
use Rattle.messages.specs.declared.message.Header.{Header}
use Rattle.packets.specs.Packets.{packets_of, in_array}
use Rattle.packets.specs.declared.packet.Packet.{Packet}
use Rattle.packets.proofs.Reading.{packets_in_array}
use Rattle.ground.specs.Tests.{first}
use Rattle.verdicts.specs.Verdicts.{verdict_of, submit_tests}
use Rattle.links.specs.declared.link.Link.{Link}
use Rattle.std.specs.Prelude.{Result, ⊤}
use Rattle.model.specs.State.{submit_packets}
use Rattle.model.specs.Judging.{bad_packets}

module _ (h : Header) (ds : List ℕ) (count : ℕ) (iso : List Packet) (n : count ≡ iso_count h.transfer.packets)
    (e : iso ≡ in_array (packets_of count ds)) where
  pub read-iso : iso ≡ in_array (submit_packets h ds)
  read-iso = e ∙ ap (λ k. in_array (packets_of k ds)) n

  pub read_bad : bad_packets h.transfer (take count iso) ≡ bad_packets h.transfer (submit_packets h ds)
  read_bad = ap (λ (ks : List Packet). bad_packets h.transfer (take count ks)) e ∙ ap (bad_packets h.transfer) (packets_in_array count ds)
      ∙ ap (λ k. bad_packets h.transfer (packets_of k ds)) n

  -- so is its verdict
  pub read_verdict : (k : Link) (n : ℕ) (bad : _) (v : Result ⊤ ℕ) → bad ≡ bad_packets h.transfer (take count iso)
      → v ≡ verdict_of (first (submit_tests h k.devid bad n k.counts.accepted))
      → v ≡ verdict_of (first (submit_tests h k.devid (bad_packets h.transfer (submit_packets h ds)) n k.counts.accepted))
  read_verdict k n bad v b j = j ∙ ap (λ x. verdict_of (first (submit_tests h k.devid x n k.counts.accepted))) (b ∙ read_bad)
