-- As many results as the count says, and what is summed over them.
use Prim.Native.Nat.{ℕ, ◌+◌, ◌-◌, ◌<◌, ◌≤◌}
use mathlib.Core.Path.{◌≡◌, refl, sym, ◌∙◌}
use mathlib.Core.Bool.{Bool, true, false, cond, not, ◌&&◌}
use mathlib.Core.List.{List, [], ◌∷◌, append-nil}
use native.Mathlib.Numerals.{add-one}
use native.Mathlib.Omega.{arith}
use borrow.Author.Tests.{eq-eqb, ne_eqb}
use lib.Dec.{eqb}
use lib.ListN.{length, take, replicate, length-append, length-take, length-replicate}
use lib.Seq.{take-suc}
use Rattle.std.specs.List.{sum_by, count_by}
use Rattle.std.proofs.lemmas.List.Sums.{sum_by-cons, sum_by-append, sum_by_push}
use Rattle.std.proofs.lemmas.List.Folds.{sum_by-replicate}
use Rattle.limits.specs.Limits.{MAX-PACKETS}
use Rattle.packets.specs.declared.packet.Packet.{Packet}
use Rattle.results.specs.declared.Results.{Results}
use Rattle.results.specs.declared.PacketResult.{PacketResult}
use Rattle.results.specs.Results.{no_result, result_in, results_of, sum, errors, all_within, results_fit}

-- ## As many as the count says

pub results_length : (r : Results) → length r.list ≡ MAX-PACKETS → length (results_of r) ≡ r.count
results_length r h = simp (length-append, length-take, length-replicate) (omega arith)

-- no blank ones where the count is inside the array
pub results_inside : (r : Results) → r.count ≤ MAX-PACKETS → results_of r ≡ take r.count r.list
results_inside r h =
    let e : r.count - MAX-PACKETS ≡ 0 = omega arith in
    rw e (append-nil (take r.count r.list))

-- ## What is summed over results: blank ones add nothing

module _ (f : PacketResult → ℕ) where
  blank-adds : f no_result ≡ 0 → (r : Results) → sum_by f (results_of r) ≡ sum_by f (take r.count r.list)
  blank-adds z r =
      let n = r.count - MAX-PACKETS in
      rw (sum_by-append f (take r.count r.list) (replicate n no_result), sum_by-replicate f n no_result, z) (omega arith)

pub sum-by : (rs : List PacketResult) → sum rs ≡ sum_by (λ r. r.actual) rs
sum-by [] = refl
sum-by (r ∷ rs) = rw (sum_by-cons (λ (r : PacketResult). r.actual) r rs, sum-by rs)

pub sum-counted : (r : Results) → sum (results_of r) ≡ sum (take r.count r.list)
sum-counted r = sum-by (results_of r) ∙ blank-adds (λ r. r.actual) refl r ∙ sym (sum-by (take r.count r.list))

one_if : (b : Bool) → cond {A = ℕ} b 0 1 ≡ cond (not b) 1 0
one_if true = refl
one_if false = refl

pub errors-by : (rs : List PacketResult) → errors rs ≡ count_by (λ r. not (eqb r.status 0)) rs
errors-by [] = refl
errors-by (r ∷ rs) = rw (sum_by-cons (λ (r : PacketResult). cond (not (eqb r.status 0)) 1 0) r rs, one_if (eqb r.status 0), errors-by rs)

pub errors-counted : (r : Results) → errors (results_of r) ≡ errors (take r.count r.list)
errors-counted r =
    errors-by (results_of r) ∙ blank-adds (λ r. cond (not (eqb r.status 0)) 1 0) refl r ∙ sym (errors-by (take r.count r.list))

-- one more
pub sum_more : (l : List PacketResult) (i : ℕ) → i < length l → sum (take i l) + (result_in l i).actual ≡ sum (take (i + 1) l)
sum_more l i h =
    let f = λ (r : PacketResult). r.actual in
    rw (sum-by (take i l), sum-by (take (i + 1) l), add-one, take-suc l i no_result h, sum_by_push f (take i l) (result_in l i))

-- ## Test by test

module _ (ks : List Packet) (r : Results) (total : ℕ) (l : length r.list ≡ MAX-PACKETS) where
  pub another_count : (r.count ≡ length ks → ⊥) → false ≡ results_fit (length ks) ks (results_of r) total
  unfolding results_fit
  another_count h = rw (results_length r l, ne_eqb r.count (length ks) h)

  pub same_count : r.count ≡ length ks
      → results_fit (length ks) ks (results_of r) total ≡ (all_within ks (results_of r) && eqb (sum (results_of r)) total)
  unfolding results_fit
  same_count e = rw (eq-eqb (length (results_of r)) (length ks) (results_length r l ∙ e))
