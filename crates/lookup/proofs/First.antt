-- The look-up finds the first device that has the busid, and nothing exactly where none has it.
use Rattle.exports.specs.Devices.{devices_of, no_device}
use Prim.Native.Nat.{ℕ, zero, suc, suc-le-suc, ◌+◌, ◌<◌}
use mathlib.Core.Path.{◌≡◌, refl, ap, ◌∙◌}
use mathlib.Core.Logic.{◌↔◌, ◌⊎◌, inl, inr}
use mathlib.Core.Bool.{Bool, true, false}
use mathlib.Core.List.{List, [], ◌∷◌}
use native.Mathlib.Nat.{le_of_suc-le-suc}
use native.Mathlib.Omega.{arith}
use lib.ListN.{length, get_or}
use Rattle.exports.specs.declared.device.Device.{Device}
use Rattle.exports.specs.declared.device.Table.{Table}
use Rattle.std.specs.Prelude.{Some, None}
use Rattle.ground.specs.Lists.{same_bytes}
use Rattle.lookup.specs.Lookup.{find_from, find_busid, find_in, FirstDevice, NoDevice}
use Rattle.ground.proofs.Tests.{refutes, fails, same_iff}

-- what holds at 0 and at each place above it, up to n
up_to : (n : ℕ) (P : ℕ → Type 0) → P 0 → ((j : ℕ) → j < n → P (suc j)) → (j : ℕ) → j < suc n → P j
up_to n P h r zero l = h
up_to n P h r (suc j) l = r j (le_of_suc-le-suc l)

module _ (busid : List ℕ) where
  -- there is a first device that has the busid, or none has it
  locate : (ds : List Device) → ((n : ℕ) × FirstDevice ds busid n) ⊎ NoDevice ds busid
  locate [] = inr (λ i h. absurd (omega arith))
  locate (d ∷ ds) = at (same_bytes d.busid busid) refl (locate ds)
    where
      at : (t : Bool) → same_bytes d.busid busid ≡ t → ((n : ℕ) × FirstDevice ds busid n) ⊎ NoDevice ds busid
          → ((n : ℕ) × FirstDevice (d ∷ ds) busid n) ⊎ NoDevice (d ∷ ds) busid
      at true e r = inl (0, record { inside = omega arith; has = (same_iff d.busid busid).0 e; before = λ j h. absurd (omega arith) })
      at false e (inl w) =
          inl (
            suc w.0,
            record {
              inside = suc-le-suc w.1.inside;
              has = w.1.has;
              before = up_to w.0 (λ j. (get_or (d ∷ ds) j no_device).busid ≡ busid → ⊥) (refutes (same_iff d.busid busid) e) w.1.before;
            },
          )
      at false e (inr h) = inr (up_to (length ds) (λ j. (get_or (d ∷ ds) j no_device).busid ≡ busid → ⊥) (refutes (same_iff d.busid busid) e) h)

  found_at : (k : ℕ) (ds : List Device) (n : ℕ) → FirstDevice ds busid n → find_from k busid ds ≡ Some (k + n)
  found_at k [] n f = absurd (omega (arith, f.inside))
  found_at k (d ∷ ds) zero f = rw ((same_iff d.busid busid).1 f.has) (ap Some (omega arith))
  found_at k (d ∷ ds) (suc n) f =
      let behind : FirstDevice ds busid n =
      record { inside = le_of_suc-le-suc f.inside; has = f.has; before = λ j h. f.before (suc j) (suc-le-suc h) } in
      rw (fails (same_iff d.busid busid) (f.before 0 (omega arith))) (found_at (suc k) ds n behind ∙ ap Some (omega arith))

  found_none : (k : ℕ) (ds : List Device) → NoDevice ds busid → find_from k busid ds ≡ None
  found_none k [] h = refl
  found_none k (d ∷ ds) h =
      rw (fails (same_iff d.busid busid) (h 0 (omega arith))) (found_none (suc k) ds (λ i l. h (suc i) (suc-le-suc l)))

  first_iff : (ds : List Device) (i : ℕ) → (find_busid busid ds ≡ Some i) ↔ FirstDevice ds busid i
  first_iff ds i = (λ e. at e (locate ds), λ f. found_at 0 ds i f ∙ ap Some (omega arith))
    where
      at : find_busid busid ds ≡ Some i → ((n : ℕ) × FirstDevice ds busid n) ⊎ NoDevice ds busid → FirstDevice ds busid i
      at e (inl w) = let q : 0 + w.0 ≡ i = cc (found_at 0 ds w.0 w.1) in let r : w.0 ≡ i = omega arith in rw r at w.1
      at e (inr h) = let q : ◌≡◌ {A = ℕ} 0 1 = cc (found_none 0 ds h) in absurd (omega arith)

  none_iff : (ds : List Device) → (find_busid busid ds ≡ None) ↔ NoDevice ds busid
  none_iff ds = (λ e. at e (locate ds), found_none 0 ds)
    where
      at : find_busid busid ds ≡ None → ((n : ℕ) × FirstDevice ds busid n) ⊎ NoDevice ds busid → NoDevice ds busid
      at e (inl w) = let q : ◌≡◌ {A = ℕ} 0 1 = cc (found_at 0 ds w.0 w.1) in absurd (omega arith)
      at e (inr h) = h

pub find_first : (t : Table) (busid : List ℕ) →
    ((i : ℕ) → (find_in t busid ≡ Some i) ↔ FirstDevice (devices_of t) busid i) × ((find_in t busid ≡ None) ↔ NoDevice (devices_of t) busid)
find_first t busid = (first_iff busid (devices_of t), none_iff busid (devices_of t))
