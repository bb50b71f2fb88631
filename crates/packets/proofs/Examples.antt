-- Worked cases of the rules on packets.
use Prim.Native.Nat.{ℕ}
use mathlib.Core.Path.{◌≡◌, refl}
use mathlib.Core.Bool.{Bool, true, false}
use mathlib.Core.List.{List, [], ◌∷◌, map}
use Rattle.wire.specs.Codes.{DIR-IN, DIR-OUT}
use Rattle.packets.specs.declared.packet.Packet.{Packet}
use Rattle.packets.specs.Judging.{packets_good}

-- A transfer's direction, its length, its packets; and what is said of them.
record Case : Type 0 where
  direction : ℕ
  len : ℕ
  packets : List Packet
  good : Bool

abbrev of : ℕ → ℕ → Packet
of o l = record { offset = o; length = l }

abbrev is : ℕ → ℕ → List Packet → Bool → Case
is direction len ks good = record { direction = direction; len = len; packets = ks; good = good }

abbrev cases : List Case
cases =
    -- IN: gaps, in front and behind too, and packets of no bytes, also at the end
    is DIR-IN 100 (of 10 20 ∷ of 30 0 ∷ of 30 60 ∷ []) true ∷
    is DIR-IN 100 (of 100 0 ∷ []) true ∷
    -- one that starts before the last one's end, one past the transfer, one whose end is 0 modulo 2^32
    is DIR-IN 100 (of 0 60 ∷ of 50 50 ∷ []) false ∷
    is DIR-IN 100 (of 60 41 ∷ []) false ∷
    is DIR-IN 0 (of 0xffffffff 1 ∷ []) false ∷
    -- OUT: all of the transfer
    is DIR-OUT 100 (of 0 50 ∷ of 50 50 ∷ []) true ∷
    is DIR-OUT 0 (of 0 0 ∷ of 0 0 ∷ []) true ∷
    -- a gap behind, between, in front
    is DIR-OUT 100 (of 0 50 ∷ of 50 49 ∷ []) false ∷
    is DIR-OUT 100 (of 0 50 ∷ of 51 49 ∷ []) false ∷
    is DIR-OUT 100 (of 1 99 ∷ []) false ∷
    -- no packets fill nothing: a submit with none must not be judged by them
    is DIR-OUT 100 [] false ∷
    []

worked : map (λ c. packets_good c.direction c.len c.packets) cases ≡ map (λ c. c.good) cases
unfolding packets_good
worked = refl
