-- Laws of the book's lists.
use Prim.Native.Nat.{ℕ, suc, ◌+◌, ◌≤◌, ◌<◌}
use native.Mathlib.Omega.{arith}
use mathlib.Core.Path.{◌≡◌, refl, sym, ap, ◌∙◌}
use mathlib.Core.Logic.{⊎_elim}
use mathlib.Core.List.Memᴰ
use mathlib.Core.List.{List, [], ◌∷◌, ◌++◌, map, Memᴰ}
use mathlib.Core.Bool.{Bool, true, false, cond}
use mathlib.Core.Option.{Option, none, some}
use lib.ListN.{length, length-append}
use lib.Dec.{eqb}
use borrow.Author.Tests.{eqb-true, eq-eqb, ne_eqb}
use Rattle.pending.specs.Pending.{ticket_of, tickets, find_by, without}
use Rattle.ground.specs.Lists.{Above, Rising}
use Rattle.pending.proofs.Finding.{find_some, find_none}
use Rattle.pending.proofs.Without.{without_absent}
use Rattle.ground.proofs.Cases.{not_some}
use Rattle.model.specs.State.{End, returned, unlinked, dropped}
use Rattle.model.specs.Book.{Fate, pending, over, Item, item, settled, mark, mark_all, if_pending, pending_of, same_end, is_end, count}
use Rattle.model.specs.Claims.{Counted, Apart, Distinct, Kept, Grown}
use Rattle.pending.specs.declared.urb.Urb.{Urb}

-- ## A new item

pend_snoc_at : (f : Fate) (v : Urb) (u : Urb) (us vs : List Urb) → us ≡ vs ++ (u ∷ []) → if_pending f v us ≡ if_pending f v vs ++ (u ∷ [])
pend_snoc_at pending v u us vs h = cc
pend_snoc_at (over e) v u us vs h = h

pub pend_snoc : (is : List Item) (u : Urb) → pending_of (is ++ (item u pending ∷ [])) ≡ pending_of is ++ (u ∷ [])
pend_snoc [] u = refl
pend_snoc (i ∷ is) u = pend_snoc_at i.fate i.urb u _ _ (pend_snoc is u)

pub count_snoc : (e : End) (is : List Item) (u : Urb) → count e (is ++ (item u pending ∷ [])) ≡ count e is
count_snoc e [] u = refl
count_snoc e (i ∷ is) u = cc (count_snoc e is u)

pub length_snoc : (is : List Item) (u : Urb) → length (is ++ (item u pending ∷ [])) ≡ suc (length is)
length_snoc is u = simp (length-append) (omega arith)

pub counted_snoc : (k : ℕ) (is : List Item) (u : Urb) → Counted k is → ticket_of u ≡ k + length is → Counted k (is ++ (item u pending ∷ []))
counted_snoc k [] u h e = (omega arith, tt)
counted_snoc k (i ∷ is) u h e = (h.0, counted_snoc (suc k) is u h.1 (omega arith))

-- ## A fate

pend-mark_at : (c : Bool) (f : Fate) (u : Urb) (t : ℕ) (e : End) (us vs : List Urb) → eqb (ticket_of u) t ≡ c → us ≡ without t vs
    → if_pending (settled c e (item u f)).fate (settled c e (item u f)).urb us ≡ without t (if_pending f u vs)
pend-mark_at true pending u t e us vs h r = cc
pend-mark_at false pending u t e us vs h r = cc
pend-mark_at true (over d) u t e us vs h r = r
pend-mark_at false (over d) u t e us vs h r = r

pub pend-mark : (t : ℕ) (e : End) (is : List Item) → pending_of (mark t e is) ≡ without t (pending_of is)
pend-mark t e [] = refl
pend-mark t e (i ∷ is) = pend-mark_at (eqb (ticket_of i.urb) t) i.fate i.urb t e _ _ refl (pend-mark t e is)

pub length-mark : (t : ℕ) (e : End) (is : List Item) → length (mark t e is) ≡ length is
length-mark t e [] = refl
length-mark t e (i ∷ is) = ap suc (length-mark t e is)

settled-urb : (c : Bool) (e : End) (i : Item) → (settled c e i).urb ≡ i.urb
settled-urb true e i = refl
settled-urb false e i = refl

pub counted-mark : (k t : ℕ) (e : End) (is : List Item) → Counted k is → Counted k (mark t e is)
counted-mark k t e [] h = tt
counted-mark k t e (i ∷ is) h = (rw settled-urb h.0, counted-mark (suc k) t e is h.1)

pub mark-fresh : (k t : ℕ) (e : End) (is : List Item) → t < k → Counted k is → mark t e is ≡ is
mark-fresh k t e [] l h = refl
mark-fresh k t e (i ∷ is) l h = cc (ne_eqb (ticket_of i.urb) t (omega (arith, h.0)), mark-fresh (suc k) t e is (omega arith) h.1)

-- every item has one fate
pub sum : (is : List Item) → length is ≡ length (pending_of is) + count returned is + count unlinked is + count dropped is
sum [] = refl
sum (i ∷ is) = at i.fate (sum is)
  where
    at : (f : Fate) → length is ≡ length (pending_of is) + count returned is + count unlinked is + count dropped is
        → suc (length is)
        ≡ length (if_pending f i.urb (pending_of is)) + (is_end returned f + count returned is) + (is_end unlinked f + count unlinked is)
        + (is_end dropped f + count dropped is)
    at pending h = omega arith
    at (over returned) h = omega arith
    at (over unlinked) h = omega arith
    at (over dropped) h = omega arith

-- no pending item has a ticket below the first
find_fresh_at : (f : Fate) (v : Urb) (t : ℕ) (us : List Urb) → t < ticket_of v → find_by ticket_of t us ≡ none → find_by ticket_of t (if_pending f v us) ≡ none
find_fresh_at pending v t us l h = cc (ne_eqb (ticket_of v) t (omega arith))
find_fresh_at (over e) v t us l h = h

find_fresh : (k t : ℕ) (is : List Item) → t < k → Counted k is → find_by ticket_of t (pending_of is) ≡ none
find_fresh k t [] l h = refl
find_fresh k t (i ∷ is) l h = find_fresh_at i.fate i.urb t (pending_of is) (omega (arith, h.0)) (find_fresh (suc k) t is (omega arith) h.1)

pub grown_refl : (is : List Item) → Grown is is
grown_refl [] = tt
grown_refl (i ∷ is) = ((refl, λ e p. p), grown_refl is)

pub grown_snoc : (is js : List Item) → Grown is (is ++ js)
grown_snoc [] js = tt
grown_snoc (i ∷ is) js = ((refl, λ e p. p), grown_snoc is js)

pub grown_trans : (is js ks : List Item) → Grown is js → Grown js ks → Grown is ks
grown_trans [] js ks h g = tt
grown_trans (i ∷ is) [] ks h g = absurd h
grown_trans (i ∷ is) (j ∷ js) [] h g = absurd g
grown_trans (i ∷ is) (j ∷ js) (k ∷ ks) h g = ((h.0.0 ∙ g.0.0, λ e p. g.0.1 e (h.0.1 e p)), grown_trans is js ks h.1 g.1)

-- an end is kept
kept : (i j : Item) (u : Urb) (e : End) → item u (over e) ≡ i → Kept i j → item u (over e) ≡ j
kept i j u e p k =
    let f : i.fate ≡ over e = sym (ap (λ x. x.fate) p) in
    let g = ap (λ x. x.urb) p ∙ k.0 in
    let q = sym (k.1 e f) in
    λ x. item (g x) (q x)

pub ended_stays : (is js : List Item) (u : Urb) (e : End) → Grown is js → Memᴰ (item u (over e)) is → Memᴰ (item u (over e)) js
ended_stays [] js u e g m = absurd (Memᴰ.not-nil m)
ended_stays (i ∷ is) [] u e g m = absurd g
ended_stays (i ∷ is) (j ∷ js) u e g m =
    ⊎_elim (λ p. Memᴰ.head (kept i j u e p g.0)) (λ r. Memᴰ.tail (ended_stays is js u e g.1 r)) (Memᴰ.cases_cons m)

-- ## A pending item gets its fate: one more with that fate, and no other item changes

abbrev pub Marked : ℕ → End → List Item → Type 0
Marked t e is = ((d : End) → count d (mark t e is) ≡ same_end e d + count d is) × Grown is (mark t e is)

mark-one_at : (k t : ℕ) (e : End) (v : Urb) (is : List Item) (u : Urb) (f : Fate) (c : Bool)
    → ticket_of v ≡ k → Counted (suc k) is → eqb (ticket_of v) t ≡ c → find_by ticket_of t (if_pending f v (pending_of is)) ≡ some u
    → (find_by ticket_of t (pending_of is) ≡ some u → Marked t e is)
    → ((d : End) → is_end d (settled c e (item v f)).fate + count d (mark t e is) ≡ same_end e d + (is_end d f + count d is))
    × (Kept (item v f) (settled c e (item v f)) × Grown is (mark t e is))
mark-one_at k t e v is u pending true a h q p r =
    let m = mark-fresh (suc k) t e is (omega (arith, eqb-true (ticket_of v) t q)) h in
    (λ d. omega (arith, ap (count d) m), ((refl, λ e p. cc), rw m (grown_refl is)))
mark-one_at k t e v is u pending false a h q p r =
    let w = r (cc) in
    (λ d. omega (arith, w.0 d), ((refl, λ e p. p), w.1))
mark-one_at k t e v is u (over g) true a h q p r = not_some (sym (find_fresh (suc k) t is (omega (arith, eqb-true (ticket_of v) t q)) h) ∙ p)
mark-one_at k t e v is u (over g) false a h q p r =
    let w = r p in
    (λ d. omega (arith, w.0 d), ((refl, λ e p. p), w.1))

pub mark-one : (k t : ℕ) (e : End) (is : List Item) (u : Urb) → Counted k is → find_by ticket_of t (pending_of is) ≡ some u → Marked t e is
mark-one k t e [] u h p = not_some p
mark-one k t e (i ∷ is) u h p = mark-one_at k t e i.urb is u i.fate (eqb (ticket_of i.urb) t) h.0 h.1 refl p (mark-one (suc k) t e is u h.1)

-- the item of a ticket has its end once that is marked
pub marked : (k : ℕ) (e : End) (is : List Item) (i : Item) → Memᴰ i is → ticket_of i.urb ≡ k → Memᴰ (item i.urb (over e)) (mark k e is)
marked k e [] i m h = absurd (Memᴰ.not-nil m)
marked k e (x ∷ is) i m h =
    ⊎_elim (λ (p : i ≡ x). Memᴰ.head (cc (eq-eqb (ticket_of i.urb) k h))) (λ r. Memᴰ.tail (marked k e is i r h)) (Memᴰ.cases_cons m)

-- ## Elements and keys

mem_to_at : (u v : Urb) (f : Fate) (is : List Item) → (Memᴰ u (pending_of is) → Memᴰ (item u pending) is)
    → Memᴰ u (if_pending f v (pending_of is)) → Memᴰ (item u pending) (item v f ∷ is)
mem_to_at u v pending is r m = ⊎_elim (λ (e : u ≡ v). Memᴰ.head (λ j. item (e j) pending)) (λ t. Memᴰ.tail (r t)) (Memᴰ.cases_cons m)
mem_to_at u v (over d) is r m = Memᴰ.tail (r m)

-- a record of the pending ones is that of a pending item, and the other way round
pub mem_to : (u : Urb) (is : List Item) → Memᴰ u (pending_of is) → Memᴰ (item u pending) is
mem_to u [] m = absurd (Memᴰ.not-nil m)
mem_to u (i ∷ is) m = mem_to_at u i.urb i.fate is (mem_to u is) m

mem_from_at : (u v : Urb) (f : Fate) (us : List Urb) → item u pending ≡ item v f → Memᴰ u (if_pending f v us)
mem_from_at u v pending us e = Memᴰ.head (ap (λ i. i.urb) e)
mem_from_at u v (over d) us e = absurd (let z : ◌≡◌ {A = ℕ} 0 1 = cc (ap (λ i. i.fate) e) in omega arith)

mem_past : (u v : Urb) (f : Fate) (us : List Urb) → Memᴰ u us → Memᴰ u (if_pending f v us)
mem_past u v pending us m = Memᴰ.tail m
mem_past u v (over d) us m = m

pub mem_from : (u : Urb) (is : List Item) → Memᴰ (item u pending) is → Memᴰ u (pending_of is)
mem_from u [] m = absurd (Memᴰ.not-nil m)
mem_from u (i ∷ is) m =
    ⊎_elim (λ e. mem_from_at u i.urb i.fate (pending_of is) e)
    (λ t. mem_past u i.urb i.fate (pending_of is) (mem_from u is t))
    (Memᴰ.cases_cons m)

-- a key that none has, as a list of the keys says it
pub apart_of : (key : Urb → ℕ) (k : ℕ) (us : List Urb) → ((u : Urb) → Memᴰ u us → key u ≡ k → ⊥) → Apart k (map key us)
apart_of key k [] n = tt
apart_of key k (v ∷ us) n = ((λ e. n v (Memᴰ.head refl) (sym e)), apart_of key k us (λ u m. n u (Memᴰ.tail m)))

pub apart_mem : (key : Urb → ℕ) (k : ℕ) (us : List Urb) (u : Urb) → Apart k (map key us) → Memᴰ u us → key u ≡ k → ⊥
apart_mem key k [] u a m e = Memᴰ.not-nil m
apart_mem key k (v ∷ us) u a m e = ⊎_elim (λ (q : u ≡ v). a.0 (sym e ∙ ap key q)) (λ t. apart_mem key k us u a.1 t e) (Memᴰ.cases_cons m)

-- keys that are distinct have one element each
pub distinct-one : (key : Urb → ℕ) (us : List Urb) (u v : Urb) → Distinct (map key us) → Memᴰ u us → Memᴰ v us → key u ≡ key v → u ≡ v
distinct-one key [] u v d m n e = absurd (Memᴰ.not-nil m)
distinct-one key (x ∷ us) u v d m n e =
    ⊎_elim (λ (p : u ≡ x).
    ⊎_elim (λ (q : v ≡ x). p ∙ sym q) (λ t. absurd (apart_mem key (key x) us v d.0 t (sym e ∙ ap key p))) (Memᴰ.cases_cons n))
    (λ s.
    ⊎_elim (λ (q : v ≡ x). absurd (apart_mem key (key x) us u d.0 s (e ∙ ap key q))) (λ t. distinct-one key us u v d.1 s t e) (Memᴰ.cases_cons n))
    (Memᴰ.cases_cons m)

-- what is among them is found by its key
pub mem_found : (key : Urb → ℕ) (us : List Urb) (u : Urb) → Memᴰ u us → (v : Urb) × (find_by key (key u) us ≡ some v)
mem_found key us u m = at (find_by key (key u) us) refl
  where
    at : (o : Option Urb) → find_by key (key u) us ≡ o → (v : Urb) × (find_by key (key u) us ≡ some v)
    at none h = absurd ((find_none key (key u) us).0 h u m refl)
    at (some v) h = (v, h)

-- and itself where the keys differ
pub only_found : (key : Urb → ℕ) (us : List Urb) (u : Urb) → Distinct (map key us) → Memᴰ u us → find_by key (key u) us ≡ some u
only_found key us u d m =
    let w = mem_found key us u m in
    let f = find_some key (key u) us w.0 w.1 in
    w.1 ∙ ap some (distinct-one key us w.0 u d f.1 m f.0)

-- a key that none has, of fewer and of one more
pub apart-without : (key : Urb → ℕ) (k t : ℕ) (us : List Urb) → Apart k (map key us) → Apart k (map key (without t us))
apart-without key k t [] a = tt
apart-without key k t (u ∷ us) a = at (eqb (ticket_of u) t) (apart-without key k t us a.1)
  where
    at : (c : Bool) → Apart k (map key (without t us)) → Apart k (map key (cond c (without t us) (u ∷ without t us)))
    at true r = r
    at false r = (a.0, r)

mem_without : (t : ℕ) (us : List Urb) (u : Urb) → Memᴰ u (without t us) → Memᴰ u us
mem_without t [] u m = m
mem_without t (v ∷ us) u m = at (eqb (ticket_of v) t) m (mem_without t us u)
  where
    at : (c : Bool) → Memᴰ u (cond c (without t us) (v ∷ without t us)) → (Memᴰ u (without t us) → Memᴰ u us) → Memᴰ u (v ∷ us)
    at true m r = Memᴰ.tail (r m)
    at false m r = ⊎_elim (λ (e : u ≡ v). Memᴰ.head e) (λ k. Memᴰ.tail (r k)) (Memᴰ.cases_cons m)

-- who is pending after an item's end was pending before
pub pending-before : (t : ℕ) (e : End) (is : List Item) (u : Urb) → Memᴰ (item u pending) (mark t e is) → Memᴰ (item u pending) is
pending-before t e is u m = mem_to u is (mem_without t (pending_of is) u (rw pend-mark at (mem_from u (mark t e is) m)))

pub distinct_without : (key : Urb → ℕ) (t : ℕ) (us : List Urb) → Distinct (map key us) → Distinct (map key (without t us))
distinct_without key t [] h = tt
distinct_without key t (u ∷ us) h = at (eqb (ticket_of u) t) (distinct_without key t us h.1)
  where
    at : (c : Bool) → Distinct (map key (without t us)) → Distinct (map key (cond c (without t us) (u ∷ without t us)))
    at true r = r
    at false r = (apart-without key (key u) t us h.0, r)

apart_snoc : (key : Urb → ℕ) (k : ℕ) (us : List Urb) (u : Urb) → Apart k (map key us) → (k ≡ key u → ⊥) → Apart k (map key (us ++ (u ∷ [])))
apart_snoc key k [] u a n = (n, tt)
apart_snoc key k (v ∷ us) u a n = (a.0, apart_snoc key k us u a.1 n)

pub distinct_snoc : (key : Urb → ℕ) (us : List Urb) (u : Urb) → Distinct (map key us) → Apart (key u) (map key us) → Distinct (map key (us ++ (u ∷ [])))
distinct_snoc key [] u h a = (tt, tt)
distinct_snoc key (v ∷ us) u h a = (apart_snoc key (key v) us u h.0 (λ e. a.0 (sym e)), distinct_snoc key us u h.1 a.1)

-- ## Tickets are counted, so they rise

above_below : (s t : ℕ) (xs : List ℕ) → s ≤ t → Above t xs → Above s xs
above_below s t [] l h = tt
above_below s t (x ∷ xs) l h = (omega (arith, h.0), h.1)

above_at : (f : Fate) (k : ℕ) (u : Urb) (us : List Urb) → ticket_of u ≡ suc k → Above (suc k) (tickets us) → Above k (tickets (if_pending f u us))
above_at pending k u us h r = (omega arith, rw h r)
above_at (over e) k u us h r = above_below k (suc k) (tickets us) (omega arith) r

above : (k : ℕ) (is : List Item) → Counted (suc k) is → Above k (tickets (pending_of is))
above k [] h = tt
above k (i ∷ is) h = above_at i.fate k i.urb (pending_of is) h.0 (above (suc k) is h.1)

pub rises : (t : ℕ) (xs : List ℕ) → Above t xs → Rising xs
rises t [] h = tt
rises t (x ∷ xs) h = h.1

pub tickets_rise : (is : List Item) → Counted 1 is → Rising (tickets (pending_of is))
tickets_rise is h = rises 0 (tickets (pending_of is)) (above 0 is h)

above_apart : (s t : ℕ) (xs : List ℕ) → s ≤ t → Above t xs → Apart s xs
above_apart s t [] l h = tt
above_apart s t (x ∷ xs) l h = (omega (arith, h.0), above_apart s x xs (omega (arith, h.0)) h.1)

above_distinct : (t : ℕ) (xs : List ℕ) → Above t xs → Distinct xs
above_distinct t [] h = tt
above_distinct t (x ∷ xs) h = (above_apart x x xs (omega arith) h.1, above_distinct x xs h.1)

-- no two pending items have one ticket
pub tickets-distinct : (is : List Item) → Counted 1 is → Distinct (tickets (pending_of is))
tickets-distinct is h = above_distinct 0 (tickets (pending_of is)) (above 0 is h)

-- a key that none has takes none out
absent : (t : ℕ) (us : List Urb) → Apart t (tickets us) → without t us ≡ us
absent t us a = without_absent t us (λ u m e. apart_mem ticket_of t us u a m e)

-- ## All pending items dropped

pub record AllDropped (is js : List Item) (n : ℕ) : Type 0 where
  pub none_left : pending_of js ≡ []
  pub counted : Counted 1 js
  pub long : length js ≡ length is
  pub ret : count returned js ≡ count returned is
  pub unl : count unlinked js ≡ count unlinked is
  pub drp : count dropped js ≡ count dropped is + n
  pub grown : Grown is js
  pub ends : (u : Urb) → Memᴰ (item u pending) is → Memᴰ (item u (over dropped)) js

pub drop_all : (us : List Urb) (is : List Item) → Counted 1 is → pending_of is ≡ us → AllDropped is (mark_all (tickets us) is) (length us)
drop_all [] is h p =
    record {
      none_left = p;
      counted = h;
      long = refl;
      ret = refl;
      unl = refl;
      drp = omega arith;
      grown = grown_refl is;
      ends = λ v m. absurd (Memᴰ.not-nil (rw p at (mem_from v is m)));
    }
drop_all (u ∷ us) is h p =
    let here = eq-eqb (ticket_of u) (ticket_of u) refl in
    let marks = mark (ticket_of u) dropped is in
    let rest : without (ticket_of u) (u ∷ us) ≡ us = cc (here, absent (ticket_of u) us (rw p at (tickets-distinct is h)).0) in
    let m = mark-one 1 (ticket_of u) dropped is u h (cc) in
    let left : pending_of marks ≡ us = cc (pend-mark (ticket_of u) dropped is) in
    let r = drop_all us marks (counted-mark 1 (ticket_of u) dropped is h) left in
    record {
      none_left = r.none_left;
      counted = r.counted;
      long = cc (r.long, length-mark (ticket_of u) dropped is);
      ret = omega (arith, r.ret, m.0 returned);
      unl = omega (arith, r.unl, m.0 unlinked);
      drp = omega (arith, r.drp, m.0 dropped);
      grown = grown_trans is marks _ m.1 r.grown;
      ends =
          λ v w.
          ⊎_elim (λ (q : v ≡ u). ended_stays marks _ v dropped r.grown (marked (ticket_of u) dropped is (item v pending) w (ap ticket_of q)))
          (λ t. r.ends v (mem_to v marks (rw left t)))
          (Memᴰ.cases_cons (rw p at (mem_from v is w)));
    }
