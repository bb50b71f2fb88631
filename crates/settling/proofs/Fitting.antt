-- Whether a completion fits, by the packets that count.
use Prim.Native.Nat.{ℕ, ◌≤◌}
use mathlib.Core.Path.{◌≡◌, refl, ap}
use mathlib.Core.Bool.{◌&&◌}
use mathlib.Core.List.{List}
use lib.Dec.{ltb}
use lib.ListN.{length, take, length-take}
use lib.Seq.{}
use native.Mathlib.Omega.{arith}
use Rattle.packets.specs.declared.packet.Packet.{Packet}
use Rattle.results.proofs.Fitting.{fits_front}
use Rattle.model.specs.Acts.{Kind, plain, isochronous, kind_fits}

-- it asks of the first `count` packets alone
pub kind_front : (k : Kind) (count : ℕ) (ks : List Packet) (total : ℕ) → count ≤ length ks
    → kind_fits k (length (take count ks)) (take count ks) total ≡ kind_fits k count ks total
kind_front k count ks total h = rw (front count ks h) (at k)
  where
    front : (n : ℕ) (xs : List Packet) → n ≤ length xs → length (take n xs) ≡ n
    front n xs h = rw length-take (omega (arith, h))

    at : (k : Kind) → kind_fits k count (take count ks) total ≡ kind_fits k count ks total
    at plain = refl
    at (isochronous rs) = ap (λ b. ltb 0 count && b) (fits_front count ks rs total h)
