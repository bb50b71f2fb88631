-- A table passes the test exactly when it keeps the rules.
use Prim.Native.Nat.{ℕ, zero, suc, suc-le-suc, ◌<◌, ◌≤◌}
use mathlib.Core.Path.{◌≡◌, refl}
use mathlib.Core.Logic.{◌↔◌}
use mathlib.Core.Bool.{Bool, true, and-eq-true_iff}
use mathlib.Core.List.{List, [], ◌∷◌}
use native.Mathlib.Nat.{le_of_suc-le-suc}
use native.Mathlib.Omega.{arith}
use lib.ListN.{length, get_or}
use lib.Seq.{length-take-le}
use Rattle.exports.specs.declared.device.Table.{Table}
use Rattle.limits.specs.Limits.{MAX-DEVICES}
use Rattle.exports.specs.Devices.{devices_of, no_device}
use Rattle.ground.specs.Lists.{every}
use Rattle.exports.specs.Rules.{good_device, apart, DeviceRules}
use Rattle.ground.proofs.Tests.{leb_iff, and_iff, every_iff}
use Rattle.exports.proofs.Good.{device_iff, Apart, apart_iff}
use Rattle.tables.specs.Tables.{pairwise, good_table, device_count, Rules}

-- ## Every two elements

module _ {A : Type 0} (z : A) (p : A → A → Bool) (P : A → A → Type 0) (iff : (x y : A) → (p x y ≡ true) ↔ P x y) where
  pairs_to : (xs : List A) → pairwise p xs ≡ true → (i j : ℕ) → i < j → j < length xs → P (get_or xs i z) (get_or xs j z)
  pairs_to [] e i j h l = absurd (omega arith)
  pairs_to (x ∷ xs) e i zero h l = absurd (omega arith)
  pairs_to (x ∷ xs) e zero (suc j) h l =
      (every_iff z (p x) (P x) (iff x) xs).0 ((and-eq-true_iff (every (p x) xs) (pairwise p xs)).0 e).0 j (le_of_suc-le-suc l)
  pairs_to (x ∷ xs) e (suc i) (suc j) h l =
      pairs_to xs ((and-eq-true_iff (every (p x) xs) (pairwise p xs)).0 e).1 i j (le_of_suc-le-suc h) (le_of_suc-le-suc l)

  pairs_from : (xs : List A) → ((i j : ℕ) → i < j → j < length xs → P (get_or xs i z) (get_or xs j z)) → pairwise p xs ≡ true
  pairs_from [] h = refl
  pairs_from (x ∷ xs) h =
      (and-eq-true_iff (every (p x) xs) (pairwise p xs)).1 (
        (every_iff z (p x) (P x) (iff x) xs).1 (λ j l. h 0 (suc j) (omega arith) (suc-le-suc l)),
        pairs_from xs (λ i j k l. h (suc i) (suc j) (suc-le-suc k) (suc-le-suc l)),
      )

  pub pairwise_iff : (xs : List A) → (pairwise p xs ≡ true) ↔ ((i j : ℕ) → i < j → j < length xs → P (get_or xs i z) (get_or xs j z))
  pairwise_iff xs = (pairs_to xs, pairs_from xs)

-- ## The table

pub good_iff : (t : Table) → (good_table t ≡ true) ↔ Rules t
unfolding good_table
good_iff t =
    let e =
    and_iff (and_iff (leb_iff t.count MAX-DEVICES) (every_iff no_device good_device DeviceRules device_iff (devices_of t)))
    (pairwise_iff no_device apart Apart apart_iff (devices_of t)) in (
      λ h.
          let p = e.0 h in
          record {
            few = p.0.0;
            each = p.0.1;
            busids = λ i j h l. (p.1 i j h l).0;
            numbers = λ i j h l. (p.1 i j h l).1;
          },
      λ r. e.1 ((r.few, r.each), λ i j h l. (r.busids i j h l, r.numbers i j h l)),
    )

-- an array as long as its type says has as many devices as the count, where the count is small enough
pub as_many : (t : Table) → length t.devices ≡ MAX-DEVICES → t.count ≤ MAX-DEVICES → device_count t ≡ t.count
as_many t l h = length-take-le t.count t.devices (omega arith)
