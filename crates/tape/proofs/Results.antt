-- The results of an `I>` record, read one after the other, and their total.
use Rattle.std.proofs.Common.{fold, ◌≡◌, ℕ, zero, suc, ◌+◌, ◌-◌, ◌*◌, ◌%◌, ◌^◌, ◌<◌, List, [], ◌∷◌, ◌++◌, length, take, drop, set, replicate, sym, refl, ap, ◌∙◌, append_assoc, add-one, arith, drop-drop, drop_at, le-ltb}
use native.Mathlib.Nat.{mod-add-mod}
use lib.Seq.{set_at, append_snoc}
use Rattle.wire.specs.Fields.{pack, unpack, Fitting}
use Rattle.wire.proofs.Heads.{pack-length, unpack-pack}
use Rattle.limits.specs.Limits.{MAX-PACKETS}
use Rattle.results.specs.Results.{no_result, results_of, sum}
use Rattle.results.specs.declared.PacketResult.{PacketResult}
use Rattle.results.specs.declared.Results.{Results}
use Rattle.tape.specs.Layout
use Rattle.tape.specs.Tape.{fields_of, Starts, result_fields, result_bytes, result_at, read_results, iso_results, iso_total}
use Rattle.tape.specs.declared.reader.Record.TheVariants.{Iso}
use Rattle.tape.proofs.Reading.{value, read_whole, reads, fields-first}

-- ## One more

pub read_length : (n : ℕ) (l : List ℕ) → length (read_results n l) ≡ n
read_length zero l = refl
read_length (suc n) l = ap suc (read_length n (drop Layout.RESULT-LEN l))

-- a result behind other bytes
pub result-drop : (at k : ℕ) (l : List ℕ) → result_at at (drop k l) ≡ result_at (k + at) l
result-drop at k l =
    let a : k + (at + Layout.RESULT-STATUS-AT) ≡ k + at + Layout.RESULT-STATUS-AT = omega arith in
    rw (drop-drop at k l, drop-drop (at + Layout.RESULT-STATUS-AT) k l, a)

read_snoc : (n : ℕ) (l : List ℕ) → read_results (suc n) l ≡ read_results n l ++ (result_at (n * Layout.RESULT-LEN) l ∷ [])
read_snoc zero l = refl
read_snoc (suc n) l =
    let m = n * Layout.RESULT-LEN in
    let e : Layout.RESULT-LEN + m ≡ suc n * Layout.RESULT-LEN = omega arith in
    let d = result-drop m Layout.RESULT-LEN l ∙ ap (λ (k : ℕ). result_at k l) e in
    ap (λ (r : List PacketResult). result_at 0 l ∷ r)
    (read_snoc n (drop Layout.RESULT-LEN l) ∙ ap (λ (r : PacketResult). read_results n (drop Layout.RESULT-LEN l) ++ (r ∷ [])) d)

-- As the array of results has the first i.
abbrev pub filled : ℕ → List ℕ → List PacketResult
filled i l = read_results i l ++ replicate (MAX-PACKETS - i) no_result

-- the array, filled in from the front
pub fill_more : (l : List ℕ) (at i : ℕ) → i < MAX-PACKETS
    → set (filled i (drop at l)) i (result_at (at + i * Layout.RESULT-LEN) l) ≡ filled (i + 1) (drop at l)
fill_more l at i h =
    let k = drop at l in
    let a : MAX-PACKETS - i ≡ suc (MAX-PACKETS - suc i) = omega arith in
    let r = result_at (i * Layout.RESULT-LEN) k in
    let rest = replicate (MAX-PACKETS - suc i) no_result in
    rw (← result-drop (i * Layout.RESULT-LEN) at l, a)
    (set_at (read_results i k) no_result rest r i (read_length i k)
    ∙ sym (append_snoc (read_results i k) r rest)
    ∙ ap (λ (rs : List PacketResult). rs ++ rest) (sym (read_snoc i k))
    ∙ ap (λ (n : ℕ). filled n k) (sym (add-one i)))

-- ## The total

-- a sum that wraps at each step
folded : (rs : List PacketResult) (n : ℕ) → fold (λ t r. (t + r.actual) % 2 ^ 32) (n % 2 ^ 32) rs ≡ (n + sum rs) % 2 ^ 32
folded [] n = let e : n + 0 ≡ n = omega arith in rw e
folded (r ∷ rs) n =
    let e : n + r.actual + sum rs ≡ n + (r.actual + sum rs) = omega arith in
    rw (mod-add-mod n (2 ^ 32) r.actual, ← e) (folded rs (n + r.actual))

-- blank results add nothing
sum-blank : (rs : List PacketResult) (n : ℕ) → sum (rs ++ replicate n no_result) ≡ sum rs
sum-blank [] zero = refl
sum-blank [] (suc n) = rw (sum-blank [] n)
sum-blank (r ∷ rs) n = ap (λ (k : ℕ). r.actual + k) (sum-blank rs n)

pub total_folded : (r : Results) → fold (λ t x. (t + x.actual) % 2 ^ 32) 0 (take r.count r.list) ≡ iso_total (results_of r)
total_folded r =
    let rs = take r.count r.list in
    let e : 0 + sum rs ≡ sum rs = omega arith in
    rw (sum-blank rs (r.count - MAX-PACKETS), ← e) (folded rs 0)

-- ## What was written reads back

abbrev pub AllFitting : List PacketResult → Type 0
AllFitting [] = Unit
AllFitting (r ∷ rs) = Fitting (result_fields r) × AllFitting rs

result_is : (r : PacketResult) (l : List ℕ) → unpack (4 ∷ 4 ∷ []) l ≡ result_fields r → result_at 0 l ≡ r
result_is r l e = λ i. record { actual = ap (value 0) e i; status = ap (value 1) e i }

read_front : (r : PacketResult) (p l : List ℕ) (n : ℕ) (rs : List PacketResult) → length p ≡ Layout.RESULT-LEN
    → result_at 0 (p ++ l) ≡ r → read_results n l ≡ rs → read_results (suc n) (p ++ l) ≡ r ∷ rs
read_front r p l n rs h e k = rw (e, drop_at p l Layout.RESULT-LEN h, k)

read_back : (rs : List PacketResult) (rest : List ℕ) → AllFitting rs → read_results (length rs) (result_bytes rs ++ rest) ≡ rs
read_back [] rest h = refl
read_back (r ∷ rs) rest h =
    let fs = result_fields r in
    let l = result_bytes rs ++ rest in
    ap (read_results (suc (length rs))) (append_assoc (pack fs) (result_bytes rs) rest)
    ∙ read_front r (pack fs) l (length rs) rs (pack-length fs) (result_is r (pack fs ++ l) (unpack-pack fs l h.0)) (read_back rs rest h.1)

-- the results are those whose bytes stand behind the fields
pub results_are : (bytes : List ℕ) (ticket status : ℕ) (rs : List PacketResult) (s : Starts bytes (Iso ticket status (length rs)))
    → AllFitting rs → s.behind ≡ result_bytes rs → iso_results (length rs) bytes ≡ rs
results_are bytes ticket status rs s h e =
    let r = Iso ticket status (length rs) in
    let fs = fields_of r in
    let l = read_whole bytes r (reads bytes r s) in
    rw (
      le-ltb MAX-PACKETS (length rs) (omega (arith, s.few)),
      le-ltb _ _ l,
      fields-first bytes r s,
      drop_at (pack fs) (s.behind ++ s.rest) Layout.RESULTS-AT (pack-length fs),
      e,
    ) (read_back rs s.rest h)
