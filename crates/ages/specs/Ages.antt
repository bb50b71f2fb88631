-- The ages of pending URBs (PROTOCOL.md, 3.5): how long ago each arrived, on a clock that wraps.
use Rattle.std.specs.Prelude.{◌≡◌, ℕ, ◌+◌, ◌-◌, ◌%◌, ◌<◌, Bool, ◌↔◌, List, filter, nat_le}
use Rattle.pending.specs.declared.urb.Urb.{Urb}

-- "32-bit milliseconds that wrap": one round of the clock, 2^32.
abbrev pub ROUND : ℕ
ROUND = 4294967296

-- "inquiry time less arrival, modulo 2^32"
unfoldable pub age_at : (time arrival : ℕ) → ℕ
age_at time arrival = (time + (ROUND - arrival % ROUND)) % ROUND

-- "whose age .. is at least the limit"
abbrev pub is_stale : (time limit : ℕ) → Urb → Bool
is_stale time limit u = nat_le limit (age_at time u.arrival)

-- Those of a list that are stale, in its order.
abbrev pub stale_in : (time limit : ℕ) → List Urb → List Urb
stale_in time limit us = filter (is_stale time limit) us

-- So many milliseconds, less than a round, after an arrival the clock shows a time.
abbrev pub Shows : (arrival age time : ℕ) → Type 0
Shows arrival age time = (age < ROUND) × ((arrival + age) % ROUND ≡ time % ROUND)

-- The age is subtraction modulo 2^32: the one such number.
abbrev pub AgeLaw : Type 0
AgeLaw = (time arrival d : ℕ) → (d ≡ age_at time arrival) ↔ Shows arrival d time
