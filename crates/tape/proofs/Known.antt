-- Records byte by byte: what the constants of Layout are, in numbers.
use Rattle.std.specs.Prelude.{Some, None}
use Rattle.std.proofs.Common.{◌≡◌, ℕ, List, [], ◌∷◌, refl}
use Rattle.results.specs.Results.{packet_result}
use Rattle.tape.specs.Tape.{head_of, stream_head, completion_head, iso_head, read_of, read_behind, wanted_of, iso_results, iso_total}
use Rattle.tape.specs.declared.reader.Record.TheVariants.{Completion, Iso, Close}

-- `X>`, as the 65,536th record and as one more
pub close-read : (read_behind 65535 (0x58 ∷ 0x3e ∷ []) ≡ Some Close) × (read_behind 65536 (0x58 ∷ 0x3e ∷ []) ≡ None)
unfolding head_of
close-read = (refl, refl)

-- `D>`: ticket 1, status 0, 64 bytes, as in the sample tape
pub completion_read : read_of (0x44 ∷ 0x3e ∷ 0 ∷ 0 ∷ 0 ∷ 0 ∷ 0 ∷ 0 ∷ 0 ∷ 1 ∷ 0 ∷ 0 ∷ 0 ∷ 0 ∷ 0 ∷ 0 ∷ 0 ∷ 64 ∷ []) ≡ Some (Completion 1 0 64)
unfolding head_of completion_head
completion_read = refl

-- `C>`: nothing behind the count is wanted before it is known; a count of 16,944 is read on, one of 16,945 isn't
pub stream_wanted : (wanted_of (0x43 ∷ 0x3e ∷ []) ≡ 4) × (wanted_of (0x43 ∷ 0x3e ∷ 0x42 ∷ 0x30 ∷ []) ≡ 16948) × (wanted_of (0x43 ∷ 0x3e ∷ 0x42 ∷ 0x31 ∷ []) ≡ 4)
unfolding head_of stream_head
stream_wanted = (refl, refl, refl)

-- `I>`: ticket 1, status 0, and a packet count behind them
abbrev counting : ℕ → List ℕ → List ℕ
counting n results = 0x49 ∷ 0x3e ∷ 0 ∷ 0 ∷ 0 ∷ 0 ∷ 0 ∷ 0 ∷ 0 ∷ 1 ∷ 0 ∷ 0 ∷ 0 ∷ 0 ∷ n ∷ results

-- nothing behind the count is wanted before it is known; a count of 32 is read on, one of 33 isn't
pub iso_wanted : (wanted_of (0x49 ∷ 0x3e ∷ []) ≡ 15) × (wanted_of (counting 32 []) ≡ 271) × (wanted_of (counting 33 []) ≡ 15)
unfolding head_of iso_head
iso_wanted = (refl, refl, refl)

-- no packets; two, with 64 bytes and status 0, 2^32 - 1 bytes and status -1; and their total
abbrev two : List ℕ
two = counting 2 (0 ∷ 0 ∷ 0 ∷ 64 ∷ 0 ∷ 0 ∷ 0 ∷ 0 ∷ 255 ∷ 255 ∷ 255 ∷ 255 ∷ 255 ∷ 255 ∷ 255 ∷ 255 ∷ [])

pub iso-read : (read_of (counting 0 []) ≡ Some (Iso 1 0 0)) × (read_of two ≡ Some (Iso 1 0 2))
    × (iso_results 2 two ≡ packet_result 64 0 ∷ packet_result 0xffffffff 0xffffffff ∷ []) × (iso_total (iso_results 2 two) ≡ 63)
unfolding head_of iso_head
iso-read = (refl, refl, refl, refl)

-- a lone byte, another mark, a short count, a short body, a short `D>`, a short `I>` of one packet
pub bad_read : (read_of (0x58 ∷ []) ≡ None) × (read_of (0x58 ∷ 0x3f ∷ []) ≡ None) × (read_of (0x43 ∷ 0x3e ∷ 0 ∷ []) ≡ None)
    × (read_of (0x43 ∷ 0x3e ∷ 0 ∷ 1 ∷ []) ≡ None) × (read_of (0x44 ∷ 0x3e ∷ 0 ∷ []) ≡ None)
    × (read_of (counting 1 (0 ∷ 0 ∷ 0 ∷ 64 ∷ 0 ∷ 0 ∷ 0 ∷ [])) ≡ None)
unfolding head_of stream_head completion_head iso_head
bad_read = (refl, refl, refl, refl, refl, refl)
