-- What the device side says of an isochronous URB, packet by packet (PROTOCOL.md, 3.3).
use Rattle.std.specs.Prelude.{ℕ, ◌+◌, ◌-◌, ◌<◌, ◌≡◌, Bool, true, cond, ◌&&◌, List, [], ◌∷◌, ◌++◌, ◌⊎◌, eqb, leb, length, take, get_or, replicate}
use Rattle.limits.specs.Limits.{MAX-PACKETS}
use Rattle.packets.specs.declared.packet.Packet.{Packet}
use Rattle.packets.specs.Packets.{no_packet, packet_in}
use Rattle.results.specs.declared.Results.{Results}
use Rattle.results.specs.declared.PacketResult.{PacketResult}

abbrev pub packet_result : (actual status : ℕ) → PacketResult
packet_result actual status = record { actual = actual; status = status }

abbrev pub no_result : PacketResult
no_result = packet_result 0 0

abbrev pub result_in : List PacketResult → ℕ → PacketResult
result_in rs i = get_or rs i no_result

-- None: no packet has one.
abbrev pub no_results : Results
no_results = record { list = replicate MAX-PACKETS no_result; count = 0 }

-- As many as the count says; a count past the array counts blank ones, too.
abbrev pub results_of : Results → List PacketResult
results_of r = take r.count r.list ++ replicate (r.count - MAX-PACKETS) no_result

-- The sum of the actual lengths, exactly.
abbrev pub sum : List PacketResult → ℕ
sum [] = 0
sum (r ∷ rs) = r.actual + sum rs

-- error_count: "the number of non-zero ones".
abbrev pub errors : List PacketResult → ℕ
errors [] = 0
errors (r ∷ rs) = cond (eqb r.status 0) 0 1 + errors rs

-- No actual length is above its packet's. (What has no packet has no length.)
abbrev pub all_within : List Packet → List PacketResult → Bool
all_within ks [] = true
all_within [] (r ∷ rs) = leb r.actual no_packet.length && all_within [] rs
all_within (k ∷ ks) (r ∷ rs) = leb r.actual k.length && all_within ks rs

-- As many as the URB has packets, each within its packet, their sum the total.
unfoldable pub results_fit : (count : ℕ) → List Packet → List PacketResult → (total : ℕ) → Bool
results_fit count ks rs total = eqb (length rs) count && (all_within ks rs && eqb (sum rs) total)

-- ## In plain words

-- "An actual length above its packet, a sum other than the total, another packet count".
abbrev pub Unfit : (count : ℕ) → List Packet → List PacketResult → (total : ℕ) → Type 0
Unfit count ks rs total =
    (length rs ≡ count → ⊥)
    ⊎ (((i : ℕ) × (i < length rs) × ((packet_in ks i).length < (result_in rs i).actual))
    ⊎ (sum rs ≡ total → ⊥))
