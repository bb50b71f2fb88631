-- Results don't fit exactly where the plain words say so, whatever blank packets stand behind.
use Prim.Native.Nat.{ℕ, zero, suc, suc-le-suc, ◌-◌, ◌<◌, ◌≤◌}
use mathlib.Core.Path.{◌≡◌, refl, sym, ap, ◌∙◌}
use mathlib.Core.Logic.{◌↔◌, ◌⊎◌, inl, inr, ⊎_elim}
use mathlib.Core.Bool.{Bool, true, false, ◌&&◌, true≢false, and-false}
use mathlib.Core.List.{List, [], ◌∷◌, ◌++◌}
use native.Mathlib.Nat.{not-suc-le-zero, le_of_suc-le-suc}
use native.Mathlib.Omega.{arith}
use borrow.Author.Tests.{le-leb, leb-true, leb-false, eqb-true, eqb-false, lt-leb, ne_eqb}
use lib.Dec.{eqb, leb}
use lib.ListN.{length, take, replicate}
use Rattle.std.specs.Bool.{IsTrue}
use Rattle.std.proofs.lemmas.Bool.{and_cases}
use Rattle.limits.specs.Limits.{MAX-PACKETS}
use Rattle.packets.specs.declared.packet.Packet.{Packet}
use Rattle.packets.specs.Packets.{no_packet, packet_in, in_array}
use Rattle.results.specs.declared.Results.{Results}
use Rattle.results.specs.declared.PacketResult.{PacketResult}
use Rattle.results.specs.Results.{no_result, result_in, results_of, sum, all_within, results_fit, Unfit}

-- ## Blank packets behind

within-blank : (n : ℕ) (rs : List PacketResult) → all_within (replicate n no_packet) rs ≡ all_within [] rs
within-blank zero rs = refl
within-blank (suc n) [] = refl
within-blank (suc n) (r ∷ rs) = ap (λ (b : Bool). leb r.actual 0 && b) (within-blank n rs)

within-behind : (ks : List Packet) (n : ℕ) (rs : List PacketResult) → all_within (ks ++ replicate n no_packet) rs ≡ all_within ks rs
within-behind [] n rs = within-blank n rs
within-behind (k ∷ ks) n [] = refl
within-behind (k ∷ ks) n (r ∷ rs) = ap (λ (b : Bool). leb r.actual k.length && b) (within-behind ks n rs)

pub within_in_array : (ks : List Packet) (rs : List PacketResult) → all_within (in_array ks) rs ≡ all_within ks rs
within_in_array ks rs = within-behind ks (MAX-PACKETS - length ks) rs

-- a packet past the results changes nothing
within-front : (ks : List Packet) (rs : List PacketResult) → all_within (take (length rs) ks) rs ≡ all_within ks rs
within-front ks [] = refl
within-front [] (r ∷ rs) = refl
within-front (k ∷ ks) (r ∷ rs) = ap (λ (b : Bool). leb r.actual k.length && b) (within-front ks rs)

pub fits_front : (count : ℕ) (ks : List Packet) (rs : List PacketResult) (total : ℕ) → count ≤ length ks
    → results_fit count (take count ks) rs total ≡ results_fit count ks rs total
unfolding results_fit
fits_front count ks rs total h = by (eqb (length rs) count) refl
  where
    by : (c : Bool) → eqb (length rs) count ≡ c
        → (c && (all_within (take count ks) rs && eqb (sum rs) total)) ≡ (c && (all_within ks rs && eqb (sum rs) total))
    by true e =
        let w : all_within (take count ks) rs ≡ all_within ks rs = rw (← (eqb-true (length rs) count e)) (within-front ks rs) in
        ap (λ (b : Bool). b && eqb (sum rs) total) w
    by false e = refl

pub fit_in_array : (count : ℕ) (ks : List Packet) (rs : List PacketResult) (total : ℕ)
    → results_fit count (in_array ks) rs total ≡ results_fit count ks rs total
unfolding results_fit
fit_in_array count ks rs total = rw (within_in_array ks rs)

-- ## A result above its packet

abbrev Beyond : (ℕ → Packet) → List PacketResult → Type 0
Beyond at rs = (i : ℕ) × (i < length rs) × ((at i).length < (result_in rs i).actual)

-- at the first place, or behind it
beyond_to : (at : ℕ → Packet) (r : PacketResult) (rs : List PacketResult) (w c : Bool) → leb r.actual (at 0).length ≡ c
    → (c && w) ≡ false → (w ≡ false → Beyond (λ i. at (suc i)) rs) → Beyond at (r ∷ rs)
beyond_to at r rs w false e h f = (0, omega arith, leb-false r.actual (at 0).length e)
beyond_to at r rs w true e h f = let b = f h in (suc b.0, suc-le-suc b.1, b.2)

beyond_from : (at : ℕ → Packet) (r : PacketResult) (rs : List PacketResult) (w : Bool) (i : ℕ) → i < suc (length rs)
    → (at i).length < (result_in (r ∷ rs) i).actual → (Beyond (λ i. at (suc i)) rs → w ≡ false)
    → (leb r.actual (at 0).length && w) ≡ false
beyond_from at r rs w zero h e f = rw (lt-leb r.actual (at 0).length e)
beyond_from at r rs w (suc i) h e f = rw (f (i, le_of_suc-le-suc h, e)) (and-false (leb r.actual (at 0).length))

within_to : (ks : List Packet) (rs : List PacketResult) → all_within ks rs ≡ false → Beyond (packet_in ks) rs
within_to ks [] h = absurd (true≢false h)
within_to [] (r ∷ rs) h = beyond_to (packet_in []) r rs (all_within [] rs) _ refl h (within_to [] rs)
within_to (k ∷ ks) (r ∷ rs) h = beyond_to (packet_in (k ∷ ks)) r rs (all_within ks rs) _ refl h (within_to ks rs)

within_from : (ks : List Packet) (rs : List PacketResult) → Beyond (packet_in ks) rs → all_within ks rs ≡ false
within_from ks [] b = absurd (not-suc-le-zero b.1)
within_from [] (r ∷ rs) b = beyond_from (packet_in []) r rs (all_within [] rs) b.0 b.1 b.2 (within_from [] rs)
within_from (k ∷ ks) (r ∷ rs) b = beyond_from (packet_in (k ∷ ks)) r rs (all_within ks rs) b.0 b.1 b.2 (within_from ks rs)

within_at : (ks : List Packet) (rs : List PacketResult) (i : ℕ) → all_within ks rs ≡ true → i < length rs
    → (result_in rs i).actual ≤ (packet_in ks i).length
within_at ks rs i w h = by (leb (result_in rs i).actual (packet_in ks i).length) refl
  where
    by : (c : Bool) → leb (result_in rs i).actual (packet_in ks i).length ≡ c → (result_in rs i).actual ≤ (packet_in ks i).length
    by true e = leb-true (result_in rs i).actual (packet_in ks i).length e
    by false e =
        let l = leb-false (result_in rs i).actual (packet_in ks i).length e in
        absurd (true≢false (sym w ∙ within_from ks rs (i, h, l)))

-- blank results behind are within any packet
blank_within : (ks : List Packet) (n : ℕ) → all_within ks (replicate n no_result) ≡ true
blank_within ks zero = refl
blank_within [] (suc n) = blank_within [] n
blank_within (k ∷ ks) (suc n) = rw (le-leb 0 k.length (omega arith)) (blank_within ks n)

within_listed : (ks : List Packet) (rs : List PacketResult) (n : ℕ) → all_within ks (rs ++ replicate n no_result) ≡ all_within ks rs
within_listed ks [] n = blank_within ks n
within_listed [] (r ∷ rs) n = ap (λ (b : Bool). leb r.actual 0 && b) (within_listed [] rs n)
within_listed (k ∷ ks) (r ∷ rs) n = ap (λ (b : Bool). leb r.actual k.length && b) (within_listed ks rs n)

-- what a test of each place says
pub within_each : (ks : List Packet) (r : Results) (b : Bool)
    → (IsTrue b ↔ ((i : ℕ) → i < length (take r.count r.list) → (result_in (take r.count r.list) i).actual ≤ (packet_in ks i).length))
    → b ≡ all_within ks (results_of r)
within_each ks r b t =
    let rs = take r.count r.list in
    by b (all_within ks rs) t refl ∙ sym (within_listed ks rs (r.count - MAX-PACKETS))
  where
    by : (b w : Bool)
        → (IsTrue b ↔ ((i : ℕ) → i < length (take r.count r.list) → (result_in (take r.count r.list) i).actual ≤ (packet_in ks i).length))
        → all_within ks (take r.count r.list) ≡ w → b ≡ w
    by true true t e = refl
    by false false t e = refl
    by true false t e =
        let b = within_to ks (take r.count r.list) e in
        let m = t.0 refl b.0 b.1 in
        absurd (omega arith)
    by false true t e = t.1 (λ i h. within_at ks (take r.count r.list) i e h)

-- ## All three tests

fails_to : (a b c : Bool) → (a && (b && c)) ≡ false → (a ≡ false) ⊎ ((b ≡ false) ⊎ (c ≡ false))
fails_to a b c h = ⊎_elim inl (λ e. inr (and_cases b c e)) (and_cases a (b && c) h)

fails_from : (a b c : Bool) → (a ≡ false) ⊎ ((b ≡ false) ⊎ (c ≡ false)) → (a && (b && c)) ≡ false
fails_from a b c = ⊎_elim (λ e. rw e) (⊎_elim (λ e. rw e (and-false a)) (λ e. rw (e, and-false b) (and-false a)))

pub unfit_iff : (count : ℕ) (ks : List Packet) (rs : List PacketResult) (total : ℕ)
    → (results_fit count ks rs total ≡ false) ↔ Unfit count ks rs total
unfolding results_fit
unfit_iff count ks rs total =
    let n = length rs in
    let s = sum rs in (
      λ h.
          ⊎_elim (λ e. inl (eqb-false n count e)) (⊎_elim (λ e. inr (inl (within_to ks rs e))) (λ e. inr (inr (eqb-false s total e))))
          (fails_to (eqb n count) (all_within ks rs) (eqb s total) h),
      λ u.
          fails_from (eqb n count) (all_within ks rs) (eqb s total)
          (⊎_elim (λ e. inl (ne_eqb n count e)) (⊎_elim (λ b. inr (inl (within_from ks rs b))) (λ e. inr (inr (ne_eqb s total e)))) u),
    )
