-- The inquiry is right by the book.
use Prim.Native.Nat.{ℕ, ◌<◌}
use native.Mathlib.Omega.{arith}
use mathlib.Core.Path.{◌≡◌, refl, sym, ap, ◌∙◌}
use mathlib.Core.Bool.{Bool, true, false, cond, true≢false}
use mathlib.Core.List.Memᴰ
use mathlib.Core.List.{List, [], ◌∷◌, Memᴰ}
use mathlib.Core.Logic.{inl, ⊎_elim}
use borrow.Author.Tests.{leb-true, le-leb}
use Rattle.pending.specs.Pending.{ticket_of, tickets}
use Rattle.pending.specs.declared.urb.Urb.{Urb}
use Rattle.ages.specs.Ages.{age_at, is_stale, stale_in}
use Rattle.ages.proofs.Ages.{age_law}
use Rattle.ground.specs.Lists.{Above, Rising}
use Rattle.ground.specs.Tests.{by_test}
use Rattle.ground.proofs.Cases.{differ}
use Rattle.limits.specs.Limits
use Rattle.model.specs.State.{Sess}
use Rattle.model.specs.Answers.{refused, done}
use Rattle.model.specs.Acts.{stale_of}
use Rattle.model.specs.Book.{close, Item, Book, pending_of}
use Rattle.model.specs.Claims.{close_rows_by, Agrees}
use Rattle.model.specs.Corollaries.{session_from, book_from}
use Rattle.model.specs.Stale.{Stale, RightInquiry, StaleListed}
use Rattle.model.proofs.Facts.{rises, mem_to, mem_from}
use Rattle.model.proofs.Corollaries.{right_from, table_iff}

module _ (time limit : ℕ) where
  abbrev stale : List Urb → List Urb
  stale us = stale_in time limit us

  -- ## Which are listed

  -- a URB that is listed, its ticket
  pub record Listed (us : List Urb) (k : ℕ) : Type 0 where
    pub urb : Urb
    pub held : Memᴰ urb us
    pub named : ticket_of urb ≡ k
    pub old : is_stale time limit urb ≡ true

  behind : (u : Urb) (us : List Urb) (k : ℕ) → Listed us k → Listed (u ∷ us) k
  behind u us k l = record { urb = l.urb; held = Memᴰ.tail l.held; named = l.named; old = l.old }

  listed : (us : List Urb) (k : ℕ) → Memᴰ k (tickets (stale us)) → Listed us k
  listed [] k m = absurd (Memᴰ.not-nil m)
  listed (u ∷ us) k m = at (is_stale time limit u) refl (listed us k) m
    where
      at : (c : Bool) → is_stale time limit u ≡ c → (Memᴰ k (tickets (stale us)) → Listed us k)
          → Memᴰ k (tickets (cond c (u ∷ stale us) (stale us))) → Listed (u ∷ us) k
      at true e f m =
          ⊎_elim (λ (p : k ≡ ticket_of u). record { urb = u; held = Memᴰ.head refl; named = sym p; old = e })
          (λ r. behind u us k (f r)) (Memᴰ.cases_cons m)
      at false e f m = behind u us k (f m)

  lists : (us : List Urb) (u : Urb) → Memᴰ u us → is_stale time limit u ≡ true → Memᴰ (ticket_of u) (tickets (stale us))
  lists [] u m e = absurd (Memᴰ.not-nil m)
  lists (v ∷ us) u m e =
      ⊎_elim (λ (p : u ≡ v). here v us u p e) (λ r. past (is_stale time limit v) v us u (lists us u r e)) (Memᴰ.cases_cons m)
    where
      here : (v : Urb) (us : List Urb) (u : Urb) → u ≡ v → is_stale time limit u ≡ true
          → Memᴰ (ticket_of u) (tickets (cond (is_stale time limit v) (v ∷ stale us) (stale us)))
      here v us u p e =
          let o : is_stale time limit v ≡ true = ap (is_stale time limit) (sym p) ∙ e in
          rw o (Memᴰ.head (ap ticket_of p))

      past : (c : Bool) (v : Urb) (us : List Urb) (u : Urb) → Memᴰ (ticket_of u) (tickets (stale us))
          → Memᴰ (ticket_of u) (tickets (cond c (v ∷ stale us) (stale us)))
      past true v us u m = Memᴰ.tail m
      past false v us u m = m

  -- by the book: a pending item of that age
  listed_stale : (is : List Item) (k : ℕ) → Listed (pending_of is) k → Stale is time limit k
  listed_stale is k l =
      let u = l.urb in
      (u, mem_to u is l.held, l.named, (age_at time u.arrival, (age_law time u.arrival _).0 refl, leb-true _ _ l.old))

  stale_listed_at : (is : List Item) (k : ℕ) → Stale is time limit k → Memᴰ k (tickets (stale (pending_of is)))
  stale_listed_at is k w =
      let u = w.0 in
      let a = w.3 in
      let d = (age_law time u.arrival a.0).1 a.1 in
      let o : is_stale time limit u ≡ true = rw (← d) (le-leb limit a.0 a.2) in
      Memᴰ.cast (sym w.2) (lists (pending_of is) u (mem_from u is w.1) o)

  -- ## In order

  above_lower : (s t : ℕ) (xs : List ℕ) → s < t → Above t xs → Above s xs
  above_lower s t [] l h = tt
  above_lower s t (x ∷ xs) l h = (omega (arith, h.0), h.1)

  above_stale : (t : ℕ) (us : List Urb) → Above t (tickets us) → Above t (tickets (stale us))
  above_stale t [] h = tt
  above_stale t (u ∷ us) h = at (is_stale time limit u) (above_stale (ticket_of u) us h.1)
    where
      at : (c : Bool) → Above (ticket_of u) (tickets (stale us)) → Above t (tickets (cond c (u ∷ stale us) (stale us)))
      at true g = (h.0, g)
      at false g = above_lower t (ticket_of u) (tickets (stale us)) h.0 g

  rising_stale : (us : List Urb) → Rising (tickets us) → Rising (tickets (stale us))
  rising_stale [] h = tt
  rising_stale (u ∷ us) h = at (is_stale time limit u) (above_stale (ticket_of u) us h)
    where
      at : (c : Bool) → Above (ticket_of u) (tickets (stale us)) → Rising (tickets (cond c (u ∷ stale us) (stale us)))
      at true g = g
      at false g = rises (ticket_of u) (tickets (stale us)) g

  -- ## The inquiry

  inquired : (s : Sess) (b : Book) → Agrees s b → RightInquiry b time limit (stale_of s time limit)
  unfolding stale_of
  inquired s b a =
      by_test (RightInquiry b time limit)
      (λ h.
      record {
        refuses = table_iff (close_rows_by b) (refused Limits.SESSION-CLOSED)
            (λ n e. inl (sym a.closes ∙ h, let q : n ≡ Limits.SESSION-CLOSED = cc in q)) (λ ts e. differ (cc));
        rising = λ ts e. differ (cc);
        exactly = λ ts e. differ (cc);
      })
      λ h.
      let is = b.items in
      let now = tickets (stale s.pend) in
      record {
        refuses = table_iff (close_rows_by b) (done now) (λ n e. differ (cc)) (λ ts e. ((λ k. true≢false (sym k ∙ sym a.closes ∙ h)), tt));
        rising = λ ts e. let q : ts ≡ now = cc in rw (q, a.pending) (rising_stale (pending_of is) a.rising);
        exactly = λ ts e k.
            let q : ts ≡ now = cc in
            rw (q, a.pending) ((λ m. listed_stale is k (listed (pending_of is) k m)), λ w. stale_listed_at is k w);
      }

pub stale_listed : StaleListed
stale_listed t cs time limit = inquired time limit (session_from t cs) (book_from t cs) (right_from t cs close).0
