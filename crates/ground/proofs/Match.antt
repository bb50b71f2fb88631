-- A table of tests decides as the table of conditions says, where each test holds exactly when its condition does.
use Prim.Native.Nat.{ℕ}
use native.Mathlib.Omega.{arith}
use mathlib.Core.Path.{◌≡◌, refl, sym, subst, ◌∙◌}
use mathlib.Core.Logic.{◌↔◌, ◌⊎◌, inl, inr, ⊎_elim}
use mathlib.Core.Bool.{Bool, true, false, cond, ◌||◌, true≢false}
use mathlib.Core.List.{List, [], ◌∷◌, ◌++◌}
use mathlib.Core.Option.{none, some}
use lib.Dec.{eqb}
use borrow.Author.Tests.{eqb-true, eqb-false}
use Rattle.ground.proofs.Tests.{refutes}
use Rattle.ground.specs.Tests.{Test, first}
use Rattle.ground.specs.Rows.{Row, row, Gives, Clear}

no_answer : {A B : Type 0} {a : A} → none ≡ some a → B
no_answer {a = a} h = absurd (let z : ◌≡◌ {A = ℕ} 0 1 = cc in omega arith)

module _ {A : Type 0} where
  -- what the first test that holds answers is what the rows give
  abbrev pub Decides : List (Test A) → List (Row A) → Type 0
  Decides ts rs = ((a : A) → first ts ≡ some a → Gives rs a) × (first ts ≡ none → Clear rs)

  -- a test and its row, before tables of which that holds where the test fails
  pub before : (t : Test A) (r : Row A) (ts : List (Test A)) (rs : List (Row A)) → t.answer ≡ r.answer → (t.holds ≡ true) ↔ r.when
      → (t.holds ≡ false → Decides ts rs) → Decides (t ∷ ts) (r ∷ rs)
  before t r ts rs e i k = ((λ a h. some-said a t.holds refl h), λ h. none_said t.holds refl h)
    where
      some-said : (a : A) (c : Bool) → t.holds ≡ c → cond c (some t.answer) (first ts) ≡ some a → Gives (r ∷ rs) a
      some-said a true h p = inl (i.0 h, let q : a ≡ t.answer = cc in q ∙ e)
      some-said a false h p = inr (refutes i h, (k h).0 a p)

      none_said : (c : Bool) → t.holds ≡ c → cond c (some t.answer) (first ts) ≡ none → Clear (r ∷ rs)
      none_said true h p = no_answer (sym p)
      none_said false h p = (refutes i h, (k h).1 p)

  -- row by row, each where none before it holds; rows that are left over hold never
  abbrev pub Match : List (Test A) → List (Row A) → Type 0
  Match [] rs = Clear rs
  Match (t ∷ ts) [] = ⊥
  Match (t ∷ ts) (r ∷ rs) = (t.answer ≡ r.answer) × ((t.holds ≡ true) ↔ r.when) × (t.holds ≡ false → Match ts rs)

  pub decides : (ts : List (Test A)) (rs : List (Row A)) → Match ts rs → Decides ts rs
  decides [] rs m = ((λ a h. no_answer h), λ _. m)
  decides (t ∷ ts) [] m = absurd m
  decides (t ∷ ts) (r ∷ rs) m = before t r ts rs m.0 m.1 (λ e. decides ts rs (m.2 e))

  pub gives : (ts : List (Test A)) (rs : List (Row A)) → Match ts rs → (a : A) → first ts ≡ some a → Gives rs a
  gives ts rs m = (decides ts rs m).0

  pub clear : (ts : List (Test A)) (rs : List (Row A)) → Match ts rs → first ts ≡ none → Clear rs
  clear ts rs m = (decides ts rs m).1

  -- ## A table that is asked only where P holds, and rows that each say P

  abbrev pub guarded : Type 0 → List (Row A) → List (Row A)
  guarded P [] = []
  guarded P (r ∷ rs) = row r.answer (P × r.when) ∷ guarded P rs

  never : {P : Type 0} → (P → ⊥) → (rs : List (Row A)) → Clear (guarded P rs)
  never n [] = tt
  never n (r ∷ rs) = ((λ w. n w.0), never n rs)

  still_clear : (P : Type 0) (rs : List (Row A)) → Clear rs → Clear (guarded P rs)
  still_clear P [] c = tt
  still_clear P (r ∷ rs) c = ((λ w. c.0 w.1), still_clear P rs c.1)

  always : {P : Type 0} → P → (ts : List (Test A)) (rs : List (Row A)) → Match ts rs → Match ts (guarded P rs)
  always {P} p [] rs m = still_clear P rs m
  always p (t ∷ ts) [] m = m
  always p (t ∷ ts) (r ∷ rs) m = (m.0, ((λ h. (p, m.1.0 h)), λ w. m.1.1 w.1), λ e. always p ts rs (m.2 e))

  -- ## Two tables of which one is asked: rows that never hold are passed over

  gives_front : (rs qs : List (Row A)) (a : A) → Gives rs a → Gives (rs ++ qs) a
  gives_front [] qs a g = absurd g
  gives_front (r ∷ rs) qs a g = ⊎_elim inl (λ p. inr (p.0, gives_front rs qs a p.1)) g

  gives_behind : (rs qs : List (Row A)) (a : A) → Clear rs → Gives qs a → Gives (rs ++ qs) a
  gives_behind [] qs a y g = g
  gives_behind (r ∷ rs) qs a y g = inr (y.0, gives_behind rs qs a y.1 g)

  clear_both : (rs qs : List (Row A)) → Clear rs → Clear qs → Clear (rs ++ qs)
  clear_both [] qs y z = z
  clear_both (r ∷ rs) qs y z = (y.0, clear_both rs qs y.1 z)

  pub either_match : (P Q : Type 0) (s : Bool) → (s ≡ true → P × (Q → ⊥)) → (s ≡ false → (P → ⊥) × Q)
      → (ts : List (Test A)) (rs : List (Row A)) → Match ts rs → (us : List (Test A)) (qs : List (Row A)) → Match us qs
      → Decides (cond s ts us) (guarded P rs ++ guarded Q qs)
  either_match P Q true p q ts rs m us qs n =
      let d = decides ts (guarded P rs) (always (p refl).0 ts rs m) in (
        λ a h. gives_front (guarded P rs) (guarded Q qs) a (d.0 a h),
        λ h. clear_both (guarded P rs) (guarded Q qs) (d.1 h) (never (p refl).1 qs),
      )
  either_match P Q false p q ts rs m us qs n =
      let d = decides us (guarded Q qs) (always (q refl).1 us qs n) in
      let y = never (q refl).0 rs in (
        λ a h. gives_behind (guarded P rs) (guarded Q qs) a y (d.0 a h),
        λ h. clear_both (guarded P rs) (guarded Q qs) y (d.1 h),
      )

-- ## One answer

module _ {A : Type 0} where
  -- what each row's answer has where the row holds, the answer that is given has
  abbrev pub EachHas : (A → Type 0) → List (Row A) → Type 0
  EachHas P [] = Unit
  EachHas P (r ∷ rs) = (r.when → P r.answer) × EachHas P rs

  pub given_has : (P : A → Type 0) (rs : List (Row A)) (a : A) → EachHas P rs → Gives rs a → P a
  given_has P [] a e g = absurd g
  given_has P (r ∷ rs) a e g = ⊎_elim (λ p. subst P (sym p.1) (e.0 p.0)) (λ p. given_has P rs a e.1 p.1) g

  pub not_clear : {B : Type 0} (rs : List (Row A)) (a : A) → Clear rs → Gives rs a → B
  not_clear [] a y g = absurd g
  not_clear (r ∷ rs) a y g = ⊎_elim (λ p. absurd (y.0 p.0)) (λ p. not_clear rs a y.1 p.1) g

  pub one_answer : (rs : List (Row A)) (a b : A) → Gives rs a → Gives rs b → a ≡ b
  one_answer [] a b g h = absurd g
  one_answer (r ∷ rs) a b g h =
      ⊎_elim (λ p. ⊎_elim (λ q. p.1 ∙ sym q.1) (λ q. absurd (q.0 p.0)) h)
      (λ p. ⊎_elim (λ q. absurd (p.0 q.0)) (λ q. one_answer rs a b p.1 q.1) h) g
