-- The session that a book describes, and each step of the book as a step of that session.
use Prim.Native.Nat.{ℕ, suc, ◌+◌, ◌-◌, ◌≤◌, ◌<◌}
use native.Mathlib.Omega.{arith}
use mathlib.Core.Path.{◌≡◌, refl, sym, ap, ◌∙◌}
use mathlib.Core.List.{List, [], ◌∷◌, ◌++◌, map}
use mathlib.Core.Bool.{Bool, true, false, cond}
use mathlib.Core.Option.{some}
use lib.Dec.{eqb, ltb}
use lib.ListN.{length, drop, length-append, drop_of_length-le}
use lib.Seq.{take_all, take-append-le, drop-append-le}
use borrow.Author.Tests.{ltb-true, ltb-false, lt-ltb, le-ltb}
use Rattle.wire.specs.Codes
use Rattle.messages.specs.Messages.{header_of, data_len}
use Rattle.exports.specs.declared.device.Table.{Table}
use Rattle.pending.specs.Pending.{ticket_of, seqnum_of, tickets, find_by, place_by, without}
use Rattle.pending.specs.declared.counts.Counts.{Counts}
use Rattle.pending.specs.declared.urb.Urb.{Urb}
use Rattle.pending.proofs.Finding.{find_some}
use Rattle.pending.proofs.Without.{first_alone}
use Rattle.limits.specs.Limits
use Rattle.model.specs.State.{Message, partly, headed, Sess, with_link, with_pend, with_counts, bytes_in, header_in, room, place, End, returned}
use Rattle.model.specs.State.{packets_in, unlinked, dropped, ended}
use Rattle.model.specs.Judging.{grown_by, grow}
use Rattle.model.specs.Acts.{accepts, settles, shuts, drops}
use Rattle.model.specs.Book.{Book, Item, item, pending, with_part, took, mark, mark_all, pending_of, same_end, count, Effect, add, settle, drop_all, shut}
use Rattle.model.specs.Book.{nothing, apply}
use Rattle.model.specs.Claims.{header, descriptors_at, sent_packets, place_of, Counted, Distinct, Apart, Grown, Settled, Emptied}
use Rattle.model.proofs.Facts.{pend_snoc, count_snoc, length_snoc, counted_snoc, pend-mark, length-mark, counted-mark, mark-one, marked, grown_refl}
use Rattle.model.proofs.Facts.{grown_snoc, mem_to, distinct_without, distinct_snoc, tickets_rise, drop_all as all-dropped, AllDropped}
use Rattle.model.proofs.Growth.{grown_in, grown-whole}
use Rattle.model.proofs.Packets.{packets_are}

-- ## The message in progress, by the bytes that came for it

abbrev pub message_in : List ℕ → Message
message_in m =
    cond (ltb (length m) Codes.HEADER-LEN) (partly m)
    (headed (header_of (header m)) (length m - Codes.HEADER-LEN) (drop (descriptors_at (header m)) m))

pub heading : (m : List ℕ) → length m < Codes.HEADER-LEN → message_in m ≡ partly m
heading m h = rw (lt-ltb (length m) Codes.HEADER-LEN h)

pub bodied : (m : List ℕ) → Codes.HEADER-LEN ≤ length m
    → message_in m ≡ headed (header_of (header m)) (length m - Codes.HEADER-LEN) (drop (descriptors_at (header m)) m)
bodied m h = rw (le-ltb (length m) Codes.HEADER-LEN h)

by_size : {A : Type 0} (a b : ℕ) (c : Bool) → ltb a b ≡ c → (a < b → A) → (b ≤ a → A) → A
by_size a b true e f g = f (ltb-true a b e)
by_size a b false e f g = g (ltb-false a b e)

pub short : {A : Type 0} (a b : ℕ) → (a < b → A) → (b ≤ a → A) → A
short a b f g = by_size a b (ltb a b) refl f g

-- its first bytes as they came, as long as they make no header; then the header
pub bytes-in : (m : List ℕ) → length m < Codes.HEADER-LEN → bytes_in (message_in m) ≡ header m
bytes-in m l = rw (heading m l) (sym (take_all Codes.HEADER-LEN m (omega arith)))

pub header-in : (m : List ℕ) → Codes.HEADER-LEN ≤ length m → header_in (message_in m) ≡ header_of (header m)
header-in m l = rw (bodied m l)

-- and the packets of a submit that is whole
pub packets-in : (m : List ℕ) → Codes.HEADER-LEN ≤ length m → packets_in (message_in m) ≡ sent_packets m
packets-in m l = ap packets_in (bodied m l) ∙ packets_are m

-- where its next byte goes, and how many its header still takes
pub place_in : (m : List ℕ) → place (message_in m) ≡ place_of m
place_in m = short (length m) Codes.HEADER-LEN (λ l. rw (heading m l) (omega arith)) (λ l. rw (bodied m l))

pub room_in : (m : List ℕ) → room (message_in m) ≡ Codes.HEADER-LEN - length m
room_in m = short (length m) Codes.HEADER-LEN (λ l. rw (heading m l) (omega arith)) (λ l. rw (bodied m l) (omega arith))

-- a byte more
pub one_more : (m : List ℕ) (x : ℕ) → length (m ++ (x ∷ [])) ≡ suc (length m)
one_more m x = length-append m (x ∷ []) ∙ omega arith

module _ (m : List ℕ) (x : ℕ) where
  abbrev more : List ℕ
  more = m ++ (x ∷ [])

  -- to the header, which has room left or is whole then, or to the body
  grown-head : length m < Codes.HEADER-LEN → grown_by (partly m) x ≡ message_in more
  grown-head l =
      short (suc (length m)) Codes.HEADER-LEN (λ h. grown_in m x h ∙ sym (heading more (omega (arith, one_more m x))))
      (λ h.
      let e : length more - Codes.HEADER-LEN ≡ 0 = omega (arith, one_more m x) in
      let none : drop (descriptors_at (header more)) more ≡ [] =
      drop_of_length-le more {i = descriptors_at (header more)} (omega (arith, one_more m x)) in
      grown-whole m x h ∙ sym (rw (bodied more (omega (arith, one_more m x)), none, take_all Codes.HEADER-LEN more (omega (arith, one_more m x)), e)))

  -- it is of the data, of which n bytes are to come, or behind it
  kept : (n : ℕ) → Codes.HEADER-LEN ≤ length m
      → cond (ltb (length m - Codes.HEADER-LEN) n) (drop (Codes.HEADER-LEN + n) m) (drop (Codes.HEADER-LEN + n) m ++ (x ∷ []))
      ≡ drop (Codes.HEADER-LEN + n) more
  kept n l =
      short (length m - Codes.HEADER-LEN) n
      (λ h.
      let a : drop (Codes.HEADER-LEN + n) m ≡ [] = drop_of_length-le m {i = Codes.HEADER-LEN + n} (omega arith) in
      let b : drop (Codes.HEADER-LEN + n) more ≡ [] = drop_of_length-le more {i = Codes.HEADER-LEN + n} (omega (arith, one_more m x)) in
      rw (lt-ltb (length m - Codes.HEADER-LEN) n h) (a ∙ sym b))
      λ h. rw (le-ltb (length m - Codes.HEADER-LEN) n h) (sym (drop-append-le (Codes.HEADER-LEN + n) m (x ∷ []) (omega arith)))

  grown_body : Codes.HEADER-LEN ≤ length m
      → grown_by (headed (header_of (header m)) (length m - Codes.HEADER-LEN) (drop (descriptors_at (header m)) m)) x ≡ message_in more
  grown_body l =
      let e : suc (length m - Codes.HEADER-LEN) ≡ length more - Codes.HEADER-LEN = omega (arith, one_more m x) in
      let h = header_of (header m) in
      rw (bodied more (omega (arith, one_more m x)), take-append-le Codes.HEADER-LEN m (x ∷ []) l) (λ i. headed h (e i) (kept (data_len h) l i))

  grown : grown_by (message_in m) x ≡ message_in more
  grown = short (length m) Codes.HEADER-LEN (λ l. rw (heading m l) (grown-head l)) (λ l. rw (bodied m l) (grown_body l))

-- ## The session that a book describes

abbrev counts_in : List Item → Counts
counts_in is = record { accepted = length is; returned = count returned is; unlinked = count unlinked is; dropped = count dropped is }

-- whole, but for the table, the phase and the devid
abbrev pub session_of : Table → ℕ → ℕ → Book → Sess
session_of t phase devid b =
    record {
      table = t;
      link =
          record {
            phase = phase;
            devid = devid;
            message = message_in b.part;
            counts = counts_in b.items;
          };
      pend = pending_of b.items;
    }

-- a byte comes
pub grow_is : (t : Table) (phase devid : ℕ) (b : Book) (x : ℕ) → grow (session_of t phase devid b) x ≡ session_of t phase devid (took b (x ∷ []))
unfolding grow
grow_is t phase devid b x = cc (grown b.part x)

-- ## What every run keeps of a book beside its session's phase

pub record Fit (phase : ℕ) (b : Book) : Type 0 where
  pub closes : eqb phase Limits.CLOSED ≡ b.closed
  pub waiting : phase ≡ Limits.WAITING → b.items ≡ []
  pub counted : Counted 1 b.items
  pub seqnums : Distinct (map seqnum_of (pending_of b.items))
  pub none-closed : b.closed ≡ true → pending_of b.items ≡ []

-- the bytes of a message in progress are no part of it
pub fit_part : (phase : ℕ) (b : Book) (p : List ℕ) → Fit phase b → Fit phase (with_part p b)
fit_part phase b p f =
    record { closes = f.closes; waiting = f.waiting; counted = f.counted; seqnums = f.seqnums; none-closed = f.none-closed }

-- ## The steps

-- an effect that the book allows
abbrev pub Allowed : ℕ → Book → Effect → Type 0
Allowed phase b (add u) =
    (ticket_of u ≡ suc (length b.items))
    × Apart (seqnum_of u) (map seqnum_of (pending_of b.items))
    × (b.closed ≡ false)
    × (phase ≡ Limits.WAITING → ⊥)
Allowed phase b (settle t e) = (u : Urb) × (find_by ticket_of t (pending_of b.items) ≡ some u)
Allowed phase b (drop_all ts) = ts ≡ tickets (pending_of b.items)
Allowed phase b shut = b.items ≡ []
Allowed phase b nothing = Unit

-- what an effect does to the items
abbrev pub Does : List Item → Effect → List Item → Type 0
Does is (add u) js = js ≡ is ++ (item u pending ∷ [])
Does is (settle t e) js = Settled t e is js
Does is (drop_all ts) js = Emptied is js
Does is shut js = js ≡ is
Does is nothing js = js ≡ is

-- and to the session, where a ticket is taken out
abbrev pub act : Sess → Effect → Sess
act s (add u) = accepts u s
act s (settle t e) = with_pend (without t s.pend) (with_link (with_counts (ended e 1 s.link.counts) s.link) s)
act s (drop_all ts) = drops s
act s shut = shuts s
act s nothing = s

abbrev pub phase_after : ℕ → Effect → ℕ
phase_after phase (add u) = phase
phase_after phase (settle t e) = phase
phase_after phase (drop_all ts) = Limits.CLOSED
phase_after phase shut = Limits.CLOSED
phase_after phase nothing = phase

pub record Step (phase : ℕ) (b : Book) (e : Effect) : Type 0 where
  pub fit : Fit (phase_after phase e) (apply b e)
  pub grown : Grown b.items (apply b e).items
  pub does : Does b.items e (apply b e).items

-- two sessions are equal by their counts and what is pending
sess_path : (t : Table) (ph dv : ℕ) (m : Message) {p p' : List Urb} {c c' : Counts} → p ≡ p' → c ≡ c'
    → ◌≡◌ {A = Sess} (record { table = t; link = record { phase = ph; devid = dv; message = m; counts = c }; pend = p })
    (record { table = t; link = record { phase = ph; devid = dv; message = m; counts = c' }; pend = p' })
sess_path t ph dv m p c = λ i. record { table = t; link = record { phase = ph; devid = dv; message = m; counts = c i }; pend = p i }

-- and two counts by their numbers
counts-path : {a a' r r' u u' d d' : ℕ} → a ≡ a' → r ≡ r' → u ≡ u' → d ≡ d'
    → ◌≡◌ {A = Counts} (record { accepted = a; returned = r; unlinked = u; dropped = d }) (record { accepted = a'; returned = r'; unlinked = u'; dropped = d' })
counts-path a r u d = λ i. record { accepted = a i; returned = r i; unlinked = u i; dropped = d i }

same_self : (e : End) → same_end e e ≡ 1
same_self returned = refl
same_self unlinked = refl
same_self dropped = refl

-- one more item has an end
ended-one : (e : End) (is js : List Item) → length js ≡ length is → ((d : End) → count d js ≡ same_end e d + count d is) → ended e 1 (counts_in is) ≡ counts_in js
ended-one returned is js l c = counts-path (sym l) (omega (arith, c returned)) (omega (arith, c unlinked)) (omega (arith, c dropped))
ended-one unlinked is js l c = counts-path (sym l) (omega (arith, c returned)) (omega (arith, c unlinked)) (omega (arith, c dropped))
ended-one dropped is js l c = counts-path (sym l) (omega (arith, c returned)) (omega (arith, c unlinked)) (omega (arith, c dropped))

closed_not_waiting : {A : Type 0} → Limits.CLOSED ≡ Limits.WAITING → A
closed_not_waiting h = absurd (omega arith)

dropped-by : (b : Book) (ts : List ℕ) → Counted 1 b.items → ts ≡ tickets (pending_of b.items)
    → AllDropped b.items (mark_all ts b.items) (length (pending_of b.items))
dropped-by b ts c r = rw r (all-dropped (pending_of b.items) b.items c refl)

-- the first that has a key is taken out with its ticket, as tickets rise
pub settles-first : (t : Table) (phase devid : ℕ) (b : Book) (key : Urb → ℕ) (k : ℕ) (u : Urb) (e : End) → Fit phase b
    → find_by key k (pending_of b.items) ≡ some u
    → let s = session_of t phase devid b in settles (place_by key k s.pend) e s ≡ act s (settle (ticket_of u) e)
settles-first t phase devid b key k u e f h =
    sess_path t phase devid (message_in b.part) (first_alone key k (pending_of b.items) u (tickets_rise b.items f.counted) h) refl

pub step : (phase : ℕ) (b : Book) (e : Effect) → Fit phase b → Allowed phase b e → Step phase b e
step ph b (add u) f r =
    let is = b.items in
    record {
      fit =
          record {
            closes = f.closes;
            waiting = λ h. absurd (r.3 h);
            counted = counted_snoc 1 is u f.counted (omega (arith, r.0));
            seqnums = rw pend_snoc (distinct_snoc seqnum_of (pending_of is) u f.seqnums r.1);
            none-closed = λ h. cc r.2;
          };
      grown = grown_snoc is _;
      does = refl;
    }
step ph b (settle k e) f r =
    let is = b.items in
    let m = mark-one 1 k e is r.0 f.counted r.1 in
    let q = find_some ticket_of k (pending_of is) r.0 r.1 in
    record {
      fit =
          record {
            closes = f.closes;
            waiting = λ h. ap (mark k e) (f.waiting h);
            counted = counted-mark 1 k e is f.counted;
            seqnums = rw pend-mark (distinct_without seqnum_of k (pending_of is) f.seqnums);
            none-closed = λ h. pend-mark k e is ∙ ap (without k) (f.none-closed h);
          };
      grown = m.1;
      does =
          record {
            was = (r.0, mem_to r.0 is q.1, q.0);
            ends = λ u p h. marked k e is (item u pending) p h;
            others = pend-mark k e is;
            long = length-mark k e is;
            more = omega (arith, m.0 e, same_self e);
          };
    }
step ph b (drop_all ts) f r =
    let g = dropped-by b ts f.counted r in
    record {
      fit =
          record {
            closes = refl;
            waiting = λ w. closed_not_waiting w;
            counted = g.counted;
            seqnums = rw g.none_left tt;
            none-closed = λ _. g.none_left;
          };
      grown = g.grown;
      does = record { ends = g.ends; others = g.none_left; long = g.long; more = g.drp };
    }
step ph b shut f r =
    record {
      fit =
          record { closes = refl; waiting = λ w. closed_not_waiting w; counted = f.counted; seqnums = f.seqnums; none-closed = λ _. ap pending_of r };
      grown = grown_refl b.items;
      does = refl;
    }
step ph b nothing f r = record { fit = f; grown = grown_refl b.items; does = refl }

-- and the session is the one that the book describes then
pub act_is : (t : Table) (phase devid : ℕ) (b : Book) (e : Effect) → Fit phase b → Allowed phase b e
    → act (session_of t phase devid b) e ≡ session_of t (phase_after phase e) devid (apply b e)
act_is t ph dv b (add u) f r =
    let is = b.items in
    sess_path t ph dv _ (sym (pend_snoc is u))
    (counts-path (sym (length_snoc is u)) (sym (count_snoc returned is u)) (sym (count_snoc unlinked is u)) (sym (count_snoc dropped is u)))
act_is t ph dv b (settle k e) f r =
    let is = b.items in
    let m = mark-one 1 k e is r.0 f.counted r.1 in
    sess_path t ph dv _ (sym (pend-mark k e is)) (ended-one e is (mark k e is) (length-mark k e is) m.0)
act_is t ph dv b (drop_all ts) f r =
    let g = dropped-by b ts f.counted r in
    sess_path t Limits.CLOSED dv _ (sym g.none_left) (counts-path (sym g.long) (sym g.ret) (sym g.unl) (sym g.drp))
act_is t ph dv b shut f r = refl
act_is t ph dv b nothing f r = refl
