-- An unlink's padding: the place that is read names its first byte that isn't 0, if there is one.
use Prim.Native.Nat.{ℕ, zero, suc, ◌+◌, ◌-◌, ◌≤◌, ◌<◌}
use mathlib.Core.Path.{◌≡◌, refl, sym, subst, ◌∙◌}
use mathlib.Core.Logic.{◌↔◌, inl, inr, ⊎_elim}
use mathlib.Core.Bool.{Bool, true, false, cond, not}
use mathlib.Core.List.{List}
use native.Mathlib.Omega.{arith}
use borrow.Author.Tests.{eqb-true, eqb-false, ltb-true, ltb-false, lt-ltb, le-ltb}
use lib.Dec.{eqb, ltb}
use lib.ListN.{get_or, length, take, drop, length-drop}
use lib.Seq.{drop-cons, length-take-le}
use Rattle.std.specs.Prelude.{Option, Some, None}
use Rattle.std.proofs.lemmas.List.Sums.{prefix_len-le-length}
use Rattle.std.specs.List.{position, position_or_len}
use Rattle.wire.specs.Codes
use Rattle.messages.specs.Messages.{first_set, dirty_of, Padding, Dirty, FirstDirty}

-- ## The place, as std's search finds it

-- what a search of n places from i on finds
abbrev pub Found : List ℕ → ℕ → ℕ → Option ℕ → Type 0
Found m n i found = found ≡ position (λ byte. not (eqb byte 0)) (take n (drop i m))

module _ (m : List ℕ) where
  abbrev steps : ℕ → ℕ → ℕ
  steps n i = position_or_len (λ byte. not (eqb byte 0)) (take n (drop i m))

  set_is : (n i : ℕ) → i + n ≤ length m → first_set n i m ≡ i + steps n i
  set_is zero i h = omega arith
  set_is (suc n) i h = rw (drop-cons m i 0 (omega arith)) (at (eqb (get_or m i 0) 0) _ _ (set_is n (suc i) (omega arith)))
    where
      at : (c : Bool) (a b : ℕ) → a ≡ suc i + b → cond c a i ≡ i + cond (not (not c)) (1 + b) 0
      at true a b e = omega arith
      at false a b e = omega arith

  size : (n i : ℕ) → i + n ≤ length m → length (take n (drop i m)) ≡ n
  size n i h = length-take-le n (drop i m) (simp length-drop (omega arith))

  set_at : (n i : ℕ) {k : ℕ} → i + n ≤ length m → Found m n i (Some k) → (first_set n i m ≡ i + k) × (k < n)
  set_at n i {k} h e = by (ltb (steps n i) (length (take n (drop i m)))) refl e
    where
      by : (c : Bool) → ltb (steps n i) (length (take n (drop i m))) ≡ c → Some k ≡ cond c (Some (steps n i)) None → (first_set n i m ≡ i + k) × (k < n)
      by true l f =
          let q : steps n i ≡ k = cc in
          let s : steps n i < length (take n (drop i m)) = ltb-true _ _ l in
          (omega (arith, set_is n i h, q), omega (arith, q, s, size n i h))
      by false l f = absurd (cc)

  unset : (n i : ℕ) → i + n ≤ length m → Found m n i None → first_set n i m ≡ i + n
  unset n i h e = by (ltb (steps n i) (length (take n (drop i m)))) refl e
    where
      by : (c : Bool) → ltb (steps n i) (length (take n (drop i m))) ≡ c → None ≡ cond c (Some (steps n i)) None → first_set n i m ≡ i + n
      by true l f = absurd (cc)
      by false l f =
          let most : steps n i ≤ length (take n (drop i m)) = prefix_len-le-length _ (take n (drop i m)) in
          let least : length (take n (drop i m)) ≤ steps n i = ltb-false _ _ l in
          omega (arith, set_is n i h, most, least, size n i h)

  in_front : (a b p k n : ℕ) → (a ≡ p + k) × (k < n) → p + k ≡ cond (ltb a (p + n)) a b
  in_front a b p k n f = rw (lt-ltb a (p + n) (omega (arith, f.0, f.1))) (sym f.0)

  behind : (a b p n : ℕ) → a ≡ p + n → b ≡ cond (ltb a (p + n)) a b
  behind a b p n e = rw (le-ltb a (p + n) (omega (arith, e)))

  pub dirty_front : {k : ℕ} → length m ≡ Codes.HEADER-LEN → Found m 8 12 (Some k) → 12 + k ≡ dirty_of m
  dirty_front h e = in_front (first_set 8 12 m) _ 12 _ 8 (set_at 8 12 (omega arith) e)

  pub dirty_back : {k : ℕ} → length m ≡ Codes.HEADER-LEN → Found m 8 12 None → Found m 24 24 (Some k) → 24 + k ≡ dirty_of m
  dirty_back h e f = sym (set_at 24 24 (omega arith) f).0 ∙ behind (first_set 8 12 m) _ 12 8 (unset 8 12 (omega arith) e)

  pub clean : length m ≡ Codes.HEADER-LEN → Found m 8 12 None → Found m 24 24 None → 48 ≡ dirty_of m
  clean h e f = sym (unset 24 24 (omega arith) f) ∙ behind (first_set 8 12 m) _ 12 8 (unset 8 12 (omega arith) e)

-- ## What it finds

-- at is from..to's first place where the byte isn't 0, or to
abbrev Finds : List ℕ → (from to at : ℕ) → Type 0
Finds m from to at =
    (from ≤ at) × (at ≤ to) × ((j : ℕ) → from ≤ j → j < at → get_or m j 0 ≡ 0) × (at < to → get_or m at 0 ≡ 0 → ⊥)

finds : (m : List ℕ) (n i : ℕ) → Finds m i (i + n) (first_set n i m)
finds m zero i = (omega arith, omega arith, (λ j h l. absurd (omega arith)), λ l. absurd (omega arith))
finds m (suc n) i = at (eqb (get_or m i 0) 0) refl (finds m n (suc i))
  where
    at : (c : Bool) → eqb (get_or m i 0) 0 ≡ c → Finds m (suc i) (suc i + n) (first_set n (suc i) m)
        → Finds m i (i + suc n) (cond c (first_set n (suc i) m) i)
    at true e f = (
      omega (arith, f.0),
      omega (arith, f.1),
      (λ j h l. by (eqb i j) refl h l),
      λ l. f.3 (omega arith),
    )
      where
        by : {j : ℕ} (c : Bool) → eqb i j ≡ c → i ≤ j → j < first_set n (suc i) m → get_or m j 0 ≡ 0
        by {j} true g h l = subst (λ (k : ℕ). get_or m k 0 ≡ 0) (eqb-true i j g) (eqb-true (get_or m i 0) 0 e)
        by {j} false g h l = f.2 j (omega (arith, eqb-false i j g)) l
    at false e f = (omega arith, omega arith, (λ j h l. absurd (omega arith)), λ _. eqb-false (get_or m i 0) 0 e)

-- ## The padding

-- every byte of it before a place is 0, and at the place, if that is in the header, a byte of it isn't
abbrev pub First : List ℕ → ℕ → Type 0
First m at = ((j : ℕ) → Padding j → j < at → get_or m j 0 ≡ 0) × (at < Codes.HEADER-LEN → Padding at × (get_or m at 0 ≡ 0 → ⊥))

two_parts : (m : List ℕ) (a b : ℕ) (c : Bool) → ltb a Codes.UNLINK-SEQNUM-AT ≡ c
    → Finds m Codes.DIRECTION-AT Codes.UNLINK-SEQNUM-AT a → Finds m Codes.LENGTH-AT Codes.HEADER-LEN b → First m (cond c a b)
two_parts m a b true e f g =
    let l = ltb-true a Codes.UNLINK-SEQNUM-AT e in (
      (λ j p h. ⊎_elim (λ q. f.2 j q.0 h) (λ q. absurd (omega (arith, q.0, l, h))) p),
      λ _. (inl (f.0, l), f.3 l),
    )
two_parts m a b false e f g =
    let l = ltb-false a Codes.UNLINK-SEQNUM-AT e in (
      (λ j p h. ⊎_elim (λ q. f.2 j q.0 (omega (arith, q.1, l))) (λ q. g.2 j q.0 h) p),
      λ h. (inr (g.0, h), g.3 h),
    )

pub dirty_first : (m : List ℕ) → First m (dirty_of m)
dirty_first m =
    two_parts m _ _ _ refl (finds m (Codes.UNLINK-SEQNUM-AT - Codes.DIRECTION-AT) Codes.DIRECTION-AT)
    (finds m (Codes.HEADER-LEN - Codes.LENGTH-AT) Codes.LENGTH-AT)

first_iff : (m : List ℕ) (at : ℕ) → First m at → (ltb at Codes.HEADER-LEN ≡ true) ↔ Dirty m
first_iff m at f = (
  (λ h. let p = f.1 (ltb-true at Codes.HEADER-LEN h) in (at, p.0, p.1)),
  λ d. by d (ltb at Codes.HEADER-LEN) refl,
)
  where
    inside : (i : ℕ) → Padding i → i < Codes.HEADER-LEN
    inside i p = ⊎_elim (λ q. omega (arith, q.1)) (λ q. q.1) p

    by : Dirty m → (c : Bool) → ltb at Codes.HEADER-LEN ≡ c → ltb at Codes.HEADER-LEN ≡ true
    by d true e = e
    by d false e = absurd (d.2 (f.0 d.0 d.1 (omega (arith, ltb-false at Codes.HEADER-LEN e, inside d.0 d.1))))

pub dirty_iff : (m : List ℕ) → (ltb (dirty_of m) Codes.HEADER-LEN ≡ true) ↔ Dirty m
dirty_iff m = first_iff m (dirty_of m) (dirty_first m)

pub dirty_place : (m : List ℕ) → Dirty m → FirstDirty m (dirty_of m)
dirty_place m d =
    let f = dirty_first m in
    let p = f.1 (ltb-true (dirty_of m) Codes.HEADER-LEN ((dirty_iff m).1 d)) in
    (p.0, p.1, f.0)
