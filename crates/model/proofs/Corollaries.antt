-- The corollaries of the claim about every list of calls.
use Prim.Native.Nat.{ℕ, zero, suc, ◌+◌, ◌-◌, ◌*◌, ◌≤◌}
use native.Mathlib.Omega.{arith}
use mathlib.Core.Path.{◌≡◌, refl, sym, ap, subst, ◌∙◌}
use mathlib.Core.Bool.{Bool, true, false, cond, true≢false}
use mathlib.Core.List.Memᴰ
use mathlib.Core.List.{List, [], ◌∷◌, ◌++◌, append-nil, append_assoc, Memᴰ}
use mathlib.Core.Logic.{◌⊎◌, inl, inr, ⊎_elim}
use mathlib.Core.Option.{some}
use lib.Dec.{eqb}
use lib.ListN.{length, take, drop, get_or, length-append, take-append-drop}
use lib.Seq.{length-take-le, take_all, take_at, drop_at, take-take, take-append-le, take-append-add, append_snoc}
use borrow.Author.Tests.{eq-eqb, ne_eqb}
use Rattle.wire.specs.Codes
use Rattle.messages.specs.Messages.{request_of, busid_of, header_of}
use Rattle.messages.specs.declared.request.Request.{Request}
use Rattle.messages.proofs.Headers.{request_stays}
use Rattle.exports.specs.Devices.{no_device, devices_of}
use Rattle.exports.specs.declared.device.Table.{Table}
use Rattle.tables.proofs.Good.{good_iff}
use Rattle.lookup.specs.Lookup.{FirstDevice, devid_of}
use Rattle.transmit.specs.Part.{part_of, Sends}
use Rattle.transmit.proofs.Whole.{sent_whole}
use Rattle.descriptors.proofs.Laws.{descriptors_length}
use Rattle.pending.specs.Pending.{ticket_of, tickets}
use Rattle.pending.specs.declared.urb.Urb.{Urb}
use Rattle.pending.proofs.Halving.{ticket-settled, ticket_there, ticket-nowhere}
use Rattle.ground.specs.Lists.{Rising}
use Rattle.limits.specs.Limits
use Rattle.ground.specs.Rows.{Row, Gives, Clear}
use Rattle.ground.specs.Tests.{first, by_first, by_test}
use Rattle.verdicts.specs.declared.verdict.Fault.{Fault}
use Rattle.ground.proofs.Match.{gives, clear, not_clear, one_answer}
use Rattle.model.specs.State.{Sess, unlinked}
use Rattle.model.specs.Answers.{Outcome, refused, done, Returned, Event, hungry, list, import, submit, answer, unlink, break, is_hungry}
use Rattle.model.specs.Judging.{urb_of, grow, judge}
use Rattle.model.specs.Acts.{between, after, Buffers, put, write_reply, feed_tests_of, refused_feed, feed_of, results_in, Completion, complete_of}
use Rattle.model.specs.Acts.{close_of, Open, open_of}
use Rattle.model.specs.Book.{Call, feed, complete, close, Entry, fed, completed, closing, Book, opened, Item, item, pending, over, keep, pending_of}
use Rattle.model.specs.Book.{NonePending}
use Rattle.model.specs.Cut.{Feeding}
use Rattle.model.specs.Claims.{entry_of, next_of, header, message_len, feed_rows_by, completion_rows_by, close_rows_by, header_rows_by, submit_rows_by, RightRequest}
use Rattle.model.specs.Claims.{descriptors_at, RightMessage, by_phase, RightFeed, header_for, descriptors_for, RightComplete, Right, Counted}
use Rattle.model.specs.Claims.{Agrees, Grown, Moves, consumed_for, Stays}
use Rattle.model.specs.Claims.{AttachesBy, Attaches, Holds}
use Rattle.model.specs.Corollaries.{session_after, book_after, session_from, book_from, OpenGives, OpenIff, ByTable, RefusedIff, TicketSought, TicketFound}
use Rattle.model.specs.Corollaries.{RefusedLate, LateTicket, Ended, EndedTicket, CancelledTicket, Sent, CompletionSent, AttachedTo, Ready, Verdict}
use Rattle.model.specs.Corollaries.{AcceptIff, UnlinkVerdict, UnlinkIff, AnsweredStays, request_size, message_size, UpTo, Reaches, Consumption, EmptyPiece}
use Rattle.ground.proofs.Cases.{differ, not_less}
use Rattle.model.proofs.Facts.{grown_refl, grown_trans, ended_stays, mem_to, mem_from}
use Rattle.model.proofs.Tables.{feed_match}
use Rattle.model.proofs.Runs.{every_run}
use Rattle.model.proofs.Cutting

-- ## The run

-- the claim about all the calls is the claim about the later ones, from where the first ones led
holds_after : (cs ds : List Call) (s : Sess) (b : Book) → Holds s b (cs ++ ds) → Holds (session_after s cs) (book_after s b cs) ds
holds_after [] ds s b h = h
holds_after (c ∷ cs) ds s b h = holds_after cs ds (next_of s c) (keep b (entry_of s c)) h.7

-- the last call is right by the book before it
pub last-right : (cs : List Call) (c : Call) (s : Sess) (b : Book) → Holds s b (cs ++ (c ∷ []))
    → Agrees (session_after s cs) (book_after s b cs) × Right (session_after s cs) (book_after s b cs) c
last-right cs c s b h = let l = holds_after cs (c ∷ []) s b h in (l.0, l.1)

-- from a fresh session
held : (t : Table) (cs ds : List Call) → Holds (session_from t cs) (book_from t cs) ds
held t cs ds = holds_after cs ds (open_of t).next (opened (open_of t).good) (every_run t (cs ++ ds))

pub right_from : (t : Table) (cs : List Call) (c : Call) → Agrees (session_from t cs) (book_from t cs) × Right (session_from t cs) (book_from t cs) c
right_from t cs c = last-right cs c (open_of t).next (opened (open_of t).good) (every_run t (cs ++ (c ∷ [])))

-- the items only grow
grown_run : (ds : List Call) (s : Sess) (b : Book) → Holds s b ds → Grown b.items (book_after s b ds).items
grown_run [] s b h = grown_refl b.items
grown_run (c ∷ ds) s b h =
    let k = keep b (entry_of s c) in
    grown_trans b.items k.items (book_after (next_of s c) k ds).items h.2 (grown_run ds (next_of s c) k h.7)

book-append : (cs ds : List Call) (s : Sess) (b : Book) → book_after s b (cs ++ ds) ≡ book_after (session_after s cs) (book_after s b cs) ds
book-append [] ds s b = refl
book-append (c ∷ cs) ds s b = book-append cs ds (next_of s c) (keep b (entry_of s c))

-- ## Opening

pub open_iff : OpenIff
unfolding open_of
open_iff t =
    by_test (OpenGives t)
    (λ h. record { good = ((λ _. (good_iff t).0 h), λ _. refl); waits = λ _. (refl, refl); refused = λ e. absurd (true≢false e) })
    λ h.
    record {
      good = ((λ e. absurd (true≢false (sym e))), λ r. absurd (true≢false (sym ((good_iff t).1 r) ∙ h)));
      waits = λ e. absurd (true≢false (sym e));
      refused = λ _. (refl, refl);
    }

-- ## Refusals

module _ {A : Type 0} where
  refused_or : (o : Outcome A) → ((n : ℕ) × (o ≡ refused n)) ⊎ ((a : A) × (o ≡ done a))
  refused_or (refused n) = inl (n, refl)
  refused_or (done a) = inr (a, refl)

  pub table_iff : (rs : List (Row ℕ)) (o : Outcome A) → ((n : ℕ) → o ≡ refused n → Gives rs n) → ((a : A) → o ≡ done a → Clear rs) → ByTable rs o
  table_iff rs o f g = (
    (λ n. (
      f n,
      λ h.
          ⊎_elim (λ p. p.1 ∙ ap refused (one_answer rs p.0 n (f p.0 p.1) h)) (λ p. not_clear rs n (g p.0 p.1) h) (refused_or o),
    )),
    ((λ h. ⊎_elim (λ p. absurd (h p.0 p.1)) (λ p. g p.0 p.1) (refused_or o)), λ y n h. not_clear rs n y (f n h)),
  )

pub refused_iff : RefusedIff
refused_iff t cs =
    let s = session_from t cs in
    let b = book_from t cs in (
      (λ p lent time.
          let r = (right_from t cs (feed p lent time)).1 in
          table_iff (feed_rows_by b lent) (feed_of s lent p time).event (λ n h. (r.refuses n h).0) (λ e h. (r.right e h).0)),
      (λ c.
          let r = (right_from t cs (complete c)).1 in
          table_iff (completion_rows_by b c) (complete_of s c).answer (λ n h. (r.refuses n h).0) (λ w h. (r.accepts w h).0)),
      (let r = (right_from t cs close).1 in
          table_iff (close_rows_by b) (close_of s).answer (λ n h. (r.refuses n h).0) (λ ts h. (r.accepts ts h).0)),
    )

-- ## Finding a ticket

sought : (s : Sess) (b : Book) (k : ℕ) → Agrees s b → TicketSought s b k
sought s b k a =
    let r : Rising (tickets s.pend) = rw a.pending a.rising in
    record {
      settled = ticket-settled k s.pend;
      place = ticket_there k s.pend r;
      nowhere = (
        (λ e u m. (ticket-nowhere k s.pend r).0 e u (rw a.pending (mem_from u b.items m))),
        λ h. (ticket-nowhere k s.pend r).1 (λ u m. h u (mem_to u b.items (rw a.pending at m))),
      );
    }

pub ticket-found : TicketFound
ticket-found t cs k = sought (session_from t cs) (book_from t cs) k (right_from t cs close).0

-- ## A late ticket

which_of : (b : Book) (c : Completion) (n : ℕ) → NonePending b.items ticket_of c.ticket → Gives (completion_rows_by b c) n
    → (n ≡ Limits.SESSION-CLOSED) ⊎ ((n ≡ Limits.SHORT-BUFFER) ⊎ (n ≡ Limits.NOT-PENDING))
which_of b c n h g =
    ⊎_elim (λ p. inl p.1) (λ p.
    ⊎_elim (λ q. inr (inl q.1)) (λ q.
    ⊎_elim (λ r. inr (inr r.1)) (λ r. absurd (r.0 h)) q.1) p.1) g

late : (s : Sess) (b : Book) (c : Completion) → RightComplete s b c → NonePending b.items ticket_of c.ticket → RefusedLate s b c
late s b c r h =
    ⊎_elim (λ p.
    let g = r.refuses p.0 p.1 in
    record { number = p.0; answer = p.1; by_table = g.0; which = which_of b c p.0 h g.0; header = g.1; next = g.2 })
    (λ p. absurd ((r.accepts p.0 p.1).0.1.1.0 h))
    (refused_or (complete_of s c).answer)

pub late_ticket : LateTicket
late_ticket t cs c h = late (session_from t cs) (book_from t cs) c (right_from t cs (complete c)).1 h

-- ## Sending

-- what goes out, by what the header buffer starts with: 48 bytes, and p descriptors
module _ (h bytes tail : List ℕ) (p : ℕ) (long : Codes.HEADER-LEN + p * Codes.DESCRIPTOR-LEN ≤ length h) (front : take Codes.HEADER-LEN h ≡ bytes)
    (back : take (p * Codes.DESCRIPTOR-LEN) (drop Codes.HEADER-LEN h) ≡ tail) where
  sends_front : (payload : List ℕ) (n : ℕ) → n ≤ length payload
      → Sends (part_of h payload n p) (bytes ++ take n payload ++ tail) (Codes.HEADER-LEN + n + p * Codes.DESCRIPTOR-LEN)
  sends_front payload n f =
      let path : take Codes.HEADER-LEN h ++ take n payload ++ take (p * Codes.DESCRIPTOR-LEN) (drop Codes.HEADER-LEN h) ≡ bytes ++ take n payload ++ tail =
      λ i. front i ++ take n payload ++ back i in
      subst (λ (x : List ℕ). Sends (part_of h payload n p) x (Codes.HEADER-LEN + n + p * Codes.DESCRIPTOR-LEN)) path (sent_whole h payload n p long f)

  sends_bare : (payload : List ℕ) → Sends (part_of h payload 0 p) (bytes ++ tail) (Codes.HEADER-LEN + p * Codes.DESCRIPTOR-LEN)
  sends_bare payload =
      subst (λ (x : List ℕ). Sends (part_of h payload 0 p) (x ++ tail) (Codes.HEADER-LEN + p * Codes.DESCRIPTOR-LEN)) (append-nil bytes)
      (sends_front payload 0 (omega arith))

-- the header of an accepted completion, sent
sent : (s : Sess) (b : Book) (c : Completion) (r : Returned) → RightComplete s b c → (complete_of s c).answer ≡ done r
    → Sent b.items c r (complete_of s c).header
sent s b c r right e =
    let a = right.accepts r e in
    let y = a.0 in
    let u = a.1.0 in
    let d = u.transfer.direction in
    let h = (complete_of s c).header in
    let bytes = header_for u c r.status in
    let tail = descriptors_for u c in
    let p = length (results_in c.kind) in
    let rest = drop (length (bytes ++ tail)) c.header in
    let size : length tail ≡ p * Codes.DESCRIPTOR-LEN = descriptors_length u.iso (results_in c.kind) in
    let parts : h ≡ bytes ++ (tail ++ rest) = a.1.5 ∙ append_assoc bytes tail rest in
    let long : Codes.HEADER-LEN + p * Codes.DESCRIPTOR-LEN ≤ length h =
    rw parts (omega (arith, length-append bytes (tail ++ rest), length-append tail rest, size)) in
    let front : take Codes.HEADER-LEN h ≡ bytes = rw parts (take_at bytes (tail ++ rest) Codes.HEADER-LEN refl) in
    let back : take (p * Codes.DESCRIPTOR-LEN) (drop Codes.HEADER-LEN h) ≡ tail =
    rw (parts, drop_at bytes (tail ++ rest) Codes.HEADER-LEN refl) (take_at tail rest (p * Codes.DESCRIPTOR-LEN) size) in
    record {
      urb = u;
      held = a.1.1;
      named = a.1.2;
      status = a.1.4;
      reads =
          λ i.
          let n : r.wire - Codes.HEADER-LEN - p * Codes.DESCRIPTOR-LEN ≡ c.actual = rw (a.1.3, eq-eqb d Codes.DIR-IN i) (omega arith) in
          let f : c.actual ≤ length c.payload =
          not_less (length c.payload) c.actual (λ k. y.1.1.1.1.1.0 (u, a.1.1, a.1.2, (i, k))) in
          rw n (sends_front h bytes tail p long front back c.payload c.actual f);
      writes =
          λ i.
          let n : r.wire - Codes.HEADER-LEN - p * Codes.DESCRIPTOR-LEN ≡ 0 = rw (a.1.3, ne_eqb d Codes.DIR-IN i) (omega arith) in
          rw n (sends_bare h bytes tail p long front back c.payload);
    }

pub completion_sent : CompletionSent
completion_sent t cs c r e = sent (session_from t cs) (book_from t cs) c r (right_from t cs (complete c)).1 e

-- ## A ticket that ended

-- tickets are counted, so they rise
ticket-low : (k : ℕ) (is : List Item) (i : Item) → Counted k is → Memᴰ i is → k ≤ ticket_of i.urb
ticket-low k [] i h m = absurd (Memᴰ.not-nil m)
ticket-low k (x ∷ is) i h m =
    ⊎_elim (λ (e : i ≡ x). omega (arith, ap (λ j. ticket_of j.urb) e, h.0))
    (λ r. omega (arith, ticket-low (suc k) is i h.1 r))
    (Memᴰ.cases_cons m)

-- and no two items have one
one-item : (k : ℕ) (is : List Item) (i j : Item) → Counted k is → Memᴰ i is → Memᴰ j is → ticket_of i.urb ≡ ticket_of j.urb → i ≡ j
one-item k [] i j h m n e = absurd (Memᴰ.not-nil m)
one-item k (x ∷ is) i j h m n e =
    ⊎_elim (λ (p : i ≡ x).
    ⊎_elim (λ (q : j ≡ x). p ∙ sym q) (λ r. absurd (behind i j p e r)) (Memᴰ.cases_cons n))
    (λ r.
    ⊎_elim (λ (q : j ≡ x). absurd (behind j i q (sym e) r)) (λ w. one-item (suc k) is i j h.1 r w e) (Memᴰ.cases_cons n))
    (Memᴰ.cases_cons m)
  where
    behind : (a b : Item) → a ≡ x → ticket_of a.urb ≡ ticket_of b.urb → Memᴰ b is → ⊥
    behind a b p f r = omega (arith, ap (λ j. ticket_of j.urb) p, h.0, ticket-low (suc k) is b h.1 r)

-- so a ticket of an item that has its end is no pending item's
ended-none : (is : List Item) (k : ℕ) → Counted 1 is → Ended is k → NonePending is ticket_of k
ended-none is k h d v m e =
    let p = one-item 1 is (item v pending) (item d.0 (over d.1)) h m d.2 (e ∙ sym d.3) in
    differ (cc (ap (λ i. i.fate) p))

pub ended-ticket : EndedTicket
ended-ticket t cs k d =
    let s = session_from t cs in
    let b = book_from t cs in (
      ended-none b.items k (right_from t cs close).0.counted d,
      λ later.
          let stays = ended_stays b.items (book_after s b later).items d.0 d.1 (grown_run later s b (held t cs later)) d.2 in
          rw (book-append cs later (open_of t).next (opened (open_of t).good)) (d.0, d.1, stays, d.3),
    )

-- an unlink that names a ticket ends that ticket's item
unlinked_ends : (s : Sess) (b : Book) (p : List ℕ) (lent : Buffers) (time q st k : ℕ) → Holds s b (feed p lent time ∷ [])
    → (feed_of s lent p time).event ≡ done (unlink q st (some k)) → Ended (keep b (entry_of s (feed p lent time))).items k
unlinked_ends s b p lent time q st k h e =
    let js = (keep b (entry_of s (feed p lent time))).items in
    let m = subst (λ (o : Outcome Event). Moves b.items (fed p o (feed_of s lent p time).consumed) js) e h.3 in
    let w = m.was in
    (w.0, unlinked, m.ends w.0 w.1 w.2, w.2)

pub cancelled_ticket : CancelledTicket
cancelled_ticket t cs later p lent time q st c h =
    let one = feed p lent time ∷ [] in
    let now = cs ++ one in
    let ends = unlinked_ends (session_from t cs) (book_from t cs) p lent time q st c.ticket (held t cs one) h in
    let d : Ended (book_from t now).items c.ticket = rw (book-append cs one (open_of t).next (opened (open_of t).good)) ends in
    let n = (ended-ticket t (now ++ later) c.ticket ((ended-ticket t now c.ticket d).1 later)).0 in
    subst (λ (calls : List Call). RefusedLate (session_from t calls) (book_from t calls) c) (append_snoc cs (feed p lent time) later)
    (late_ticket t (now ++ later) c n)

-- ## What a feed consumes

-- no more than there is
pub consumed-most : (s : Sess) (lent : Buffers) (p : List ℕ) (time : ℕ) → (feed_of s lent p time).consumed ≤ length p
unfolding feed_of
consumed-most s lent p time =
    by_first (λ (r : Feeding). r.consumed ≤ length p) (first (feed_tests_of s lent)) (λ n h. omega arith)
    (λ h. Cutting.consumed-most grow put (judge time) after write_reply hungry is_hungry p lent s)

-- sizes, by the code or the command
import-size : (x : List ℕ) → (request_of (header x)).code ≡ Codes.OP-REQ-IMPORT → request_size x ≡ Codes.OP-LEN + Codes.BUSID-LEN
import-size x h = rw (eq-eqb _ _ h)

list-size : (x : List ℕ) → (request_of (header x)).code ≡ Codes.OP-REQ-DEVLIST → request_size x ≡ Codes.OP-LEN
list-size x h = rw h

submit-size : (x : List ℕ) → (header_of (header x)).command ≡ Codes.CMD-SUBMIT → message_size x ≡ message_len (header x)
submit-size x h = rw (eq-eqb _ _ h)

unlink-size : (x : List ℕ) → (header_of (header x)).command ≡ Codes.CMD-UNLINK → message_size x ≡ Codes.HEADER-LEN
unlink-size x h = rw h

at_least : (c : Bool) (n a b : ℕ) → n ≤ a → n ≤ b → n ≤ cond c a b
at_least true n a b h g = h
at_least false n a b h g = g

-- a request's code stays as more bytes come
code_same : (m r : List ℕ) → Codes.OP-LEN ≤ length m → length m ≤ Codes.HEADER-LEN → (request_of (header (m ++ r))).code ≡ (request_of (header m)).code
code_same m r h l =
    let n = Codes.HEADER-LEN - length m in
    let w : Codes.HEADER-LEN ≡ length m + n = omega arith in
    let e : header (m ++ r) ≡ m ++ take n r = ap (λ k. take k (m ++ r)) w ∙ take-append-add m r n in
    ap (λ y. (request_of y).code) e ∙ ap (λ (q : Request). q.code) (request_stays m (take n r) h)
    ∙ ap (λ y. (request_of y).code) (sym (take_all Codes.HEADER-LEN m l))

-- by the message in progress and the piece
abbrev RequestReaches : (q p : List ℕ) → Outcome Event → ℕ → Type 0
RequestReaches q p o k = Reaches (request_size (q ++ p)) Codes.OP-LEN (length q) (length p) o k

abbrev MessageReaches : (q p : List ℕ) → Outcome Event → ℕ → Type 0
MessageReaches q p o k = Reaches (message_size (q ++ p)) Codes.HEADER-LEN (length q) (length p) o k

module _ (q p : List ℕ) (k : ℕ) (l : k ≤ length p) where
  abbrev read : List ℕ
  read = q ++ take k p

  -- what came, all of it, is what was read and the rest
  split : q ++ p ≡ read ++ drop k p
  split = simp (append_assoc, take-append-drop)

  count : length read ≡ length q + k
  count = length-append q (take k p) ∙ ap (λ j. length q + j) (length-take-le k p l)

  code_read : Codes.OP-LEN ≤ length read → length read ≤ Codes.HEADER-LEN → (request_of (header (q ++ p))).code ≡ (request_of (header read)).code
  code_read h g = rw split (code_same read (drop k p) h g)

  header_read : Codes.HEADER-LEN ≤ length read → header (q ++ p) ≡ header read
  header_read h = rw split (take-append-le Codes.HEADER-LEN read (drop k p) h)

  up_to : (n m : ℕ) → length read ≡ n → m ≡ n → UpTo m (length q) (length p) k
  up_to n m h e = (omega (arith, count), omega (arith, count))

  request_reaches : (t : Table) (is : List Item) (e : Event) → (e ≡ hungry → k ≡ length p) → RightRequest t is read e → RequestReaches q p (done e) k
  request_reaches t is hungry a r =
      let c = eqb (request_of (header (q ++ p))).code Codes.OP-REQ-IMPORT in
      let low = at_least c Codes.OP-LEN (Codes.OP-LEN + Codes.BUSID-LEN) Codes.OP-LEN (omega arith) (omega arith) in
      let e = a refl in (
        ⊎_elim (λ h. omega (arith, count, low))
            (λ h. omega (arith, count, import-size (q ++ p) (code_read h.0 (omega (arith, h.1)) ∙ h.3))) r,
        e,
      )
  request_reaches t is list a r =
      up_to Codes.OP-LEN _ r.0 (list-size (q ++ p) (code_read (omega (arith, r.0)) (omega (arith, r.0)) ∙ r.2))
  request_reaches t is (import st) a r =
      up_to (Codes.OP-LEN + Codes.BUSID-LEN) _ r.0 (import-size (q ++ p) (code_read (omega (arith, r.0)) (omega (arith, r.0)) ∙ r.2))
  request_reaches t is (submit u) a r = absurd r
  request_reaches t is (answer n st) a r = absurd r
  request_reaches t is (unlink n st o) a r = absurd r
  request_reaches t is (break f ts) a r = up_to Codes.OP-LEN _ r.0 refl

  -- a whole submit was read
  whole-read : length read ≡ message_len (header read) → (header_of (header read)).command ≡ Codes.CMD-SUBMIT
      → UpTo (message_size (q ++ p)) (length q) (length p) k
  whole-read h c =
      let e = header_read (omega (arith, h)) in
      up_to (message_len (header read)) _ h (submit-size (q ++ p) (ap (λ m. (header_of m).command) e ∙ c) ∙ ap message_len e)

  message_reaches : (devid time : ℕ) (is : List Item) (e : Event) → (e ≡ hungry → k ≡ length p) → RightMessage devid time is read e
      → MessageReaches q p (done e) k
  message_reaches devid time is hungry a r =
      let c = eqb (header_of (header (q ++ p))).command Codes.CMD-SUBMIT in
      let low = at_least c Codes.HEADER-LEN (message_len (header (q ++ p))) Codes.HEADER-LEN (omega arith) (omega arith) in
      let e = a refl in (
        ⊎_elim (λ h. omega (arith, count, low))
            (λ h.
            let f = header_read h.0 in
            omega (arith, count, h.3, submit-size (q ++ p) (ap (λ m. (header_of m).command) f ∙ h.2), ap message_len f)) r,
        e,
      )
  message_reaches devid time is list a r = absurd r
  message_reaches devid time is (import st) a r = absurd r
  message_reaches devid time is (submit u) a r = whole-read r.0 r.2
  message_reaches devid time is (answer n st) a r = whole-read r.0 r.2
  message_reaches devid time is (unlink n st o) a r =
      let e = header_read (omega (arith, r.0)) in
      up_to Codes.HEADER-LEN _ r.0 (unlink-size (q ++ p) (ap (λ m. (header_of m).command) e ∙ r.2))
  message_reaches devid time is (break f ts) a r = up_to Codes.HEADER-LEN _ r.0 refl

  done_reaches : (c : Bool) (t : Table) (devid time : ℕ) (is : List Item) (e : Event) → (e ≡ hungry → k ≡ length p)
      → by_phase c (RightRequest t is read e) (RightMessage devid time is read e) → by_phase c (RequestReaches q p (done e) k) (MessageReaches q p (done e) k)
  done_reaches true t devid time is e a r = request_reaches t is e a r
  done_reaches false t devid time is e a r = message_reaches devid time is e a r

refused_reaches : (c : Bool) (q p : List ℕ) (n k : ℕ) → k ≡ 0 → by_phase c (RequestReaches q p (refused n) k) (MessageReaches q p (refused n) k)
refused_reaches true q p n k h = h
refused_reaches false q p n k h = h

reaches : (s : Sess) (b : Book) (lent : Buffers) (p : List ℕ) (time : ℕ) → RightFeed s b p lent time
    → let r = feed_of s lent p time in
    by_phase (eqb s.link.phase Limits.WAITING) (RequestReaches b.part p r.event r.consumed) (MessageReaches b.part p r.event r.consumed)
reaches s b lent p time r =
    let k = (feed_of s lent p time).consumed in
    let c = eqb s.link.phase Limits.WAITING in
    ⊎_elim (λ h. rw h.1 (refused_reaches c b.part p h.0 k (r.refuses h.0 h.1).1))
    (λ h.
    let all : h.0 ≡ hungry → k ≡ length p = λ e. r.all (h.1 ∙ ap done e) in
    rw h.1 (done_reaches b.part p k (consumed-most s lent p time) c s.table s.link.devid time b.items h.0 all (r.right h.0 h.1).1))
    (refused_or (feed_of s lent p time).event)

pub consumption : Consumption
consumption t cs lent p time = reaches (session_from t cs) (book_from t cs) lent p time (right_from t cs (feed p lent time)).1

pub empty_piece : EmptyPiece
unfolding feed_of Rattle.model.specs.Machine.feed
empty_piece t cs lent time =
    let s = session_from t cs in
    let b = book_from t cs in
    let m = feed_match s b lent (right_from t cs close).0.closes in
    by_first (λ (r : Feeding).
    ((n : ℕ) × Gives (feed_rows_by b lent) n × (r ≡ refused_feed s lent n))
    ⊎ (Clear (feed_rows_by b lent) × (r ≡ record { event = done hungry; consumed = 0; buffers = lent; next = s })))
    (first (feed_tests_of s lent))
    (λ n h. inl (n, gives (feed_tests_of s lent) (feed_rows_by b lent) m n h, refl))
    (λ h. inr (clear (feed_tests_of s lent) (feed_rows_by b lent) m h, refl))

-- ## The device

-- a devid is that of a device of a table
abbrev Names : Table → ℕ → Type 0
Names t devid = (busid : List ℕ) × (i : ℕ) × FirstDevice (devices_of t) busid i × (devid ≡ devid_of (get_or (devices_of t) i no_device))

module _ (t : Table) (phase devid : ℕ) (m : List ℕ) (next : Sess) (before : phase ≡ Limits.ATTACHED → Names t devid)
    (now : next.link.phase ≡ Limits.ATTACHED) where
  stays : Stays phase devid next → Names t next.link.devid
  stays h = rw h.1 (before (sym h.0 ∙ now))

  ends : Stays Limits.CLOSED devid next → Names t next.link.devid
  ends h = absurd (omega (arith, h.0))

  attached_by : (e : Event) → AttachesBy t phase devid m e next → Names t next.link.devid
  attached_by hungry h = stays h
  attached_by list h = ends h
  attached_by (import zero) h = (busid_of (header m), h.1, h.2, h.3)
  attached_by (import (suc st)) h = ends h
  attached_by (submit u) h = stays h
  attached_by (answer q st) h = stays h
  attached_by (unlink q st o) h = stays h
  attached_by (break f ts) h = ends h

  attached-next : (a : Entry) → Attaches t phase devid m a next → Names t next.link.devid
  attached-next (fed p (refused n) k) h = stays h
  attached-next (fed p (done e) k) h = attached_by e h
  attached-next (completed ticket o) h = stays h
  attached-next (closing (refused n)) h = stays h
  attached-next (closing (done ts)) h = ends h

attached_run : (cs : List Call) (t : Table) (s : Sess) (b : Book) → Holds s b cs → s.table ≡ t
    → (s.link.phase ≡ Limits.ATTACHED → Names t s.link.devid)
    → (session_after s cs).link.phase ≡ Limits.ATTACHED → Names t (session_after s cs).link.devid
attached_run [] t s b h e d = d
attached_run (c ∷ cs) t s b h e d =
    let a = entry_of s c in
    let m = consumed_for b.part a in
    let ph = s.link.phase in
    let dv = s.link.devid in
    attached_run cs t (next_of s c) (keep b a) h.7 (h.6 ∙ e)
    (λ w. attached-next t ph dv m (next_of s c) d w a (subst (λ (u : Table). Attaches u ph dv m a (next_of s c)) e h.5))

open_waits : (t : Table) → (open_of t).next.link.phase ≡ Limits.ATTACHED → ⊥
unfolding open_of
open_waits t = by_test (λ (r : Open). r.next.link.phase ≡ Limits.ATTACHED → ⊥) (λ _ h. omega arith) (λ _ h. omega arith)

open_table : (t : Table) (busid : List ℕ) (i : ℕ) → FirstDevice (devices_of (open_of t).next.table) busid i → (open_of t).next.table ≡ t
unfolding open_of
open_table t busid i =
    by_test (λ (r : Open). FirstDevice (devices_of r.next.table) busid i → r.next.table ≡ t) (λ _ f. refl) (λ _ f. absurd (omega (arith, f.inside)))

pub attached_to : AttachedTo
attached_to t cs h =
    let o = open_of t in
    let d = attached_run cs o.next.table o.next (opened o.good) (every_run t cs) refl (λ w. absurd (open_waits t w)) h in
    subst (λ (u : Table). Names u (session_from t cs).link.devid) (open_table t d.0 d.1 d.2) d

-- ## A submit

module _ (devid time : ℕ) (is : List Item) (m : List ℕ) where
  abbrev faults : List (Row Fault)
  faults = header_rows_by devid is (header m)

  abbrev statuses : List (Row ℕ)
  statuses = submit_rows_by devid is m

  accepts : (u : Urb) (k : ℕ) → k ≡ length m → Clear faults → Clear statuses
      → u ≡ urb_of (suc (length is)) time (header_of (header m)) (drop (descriptors_at (header m)) m)
      → Verdict devid time is m (done (submit u)) k
  accepts u k l y z e =
      record {
        accepted = λ w. ((λ h. (y, z, cc)), λ h. cc h.2);
        broken = λ f ts. ((λ h. differ (cc)), λ h. not_clear faults f y h.0);
        answered = λ q st. ((λ h. differ (cc)), λ h. not_clear statuses st z h.1);
        one = inl (u, refl, l);
      }

  answers : (q st k : ℕ) → k ≡ length m → Clear faults → Gives statuses st → q ≡ (header_of (header m)).transfer.seqnum
      → Verdict devid time is m (done (answer q st)) k
  answers q st k l y g e =
      record {
        accepted = λ w. ((λ h. differ (cc)), λ h. not_clear statuses st h.1 g);
        broken = λ f ts. ((λ h. differ (cc)), λ h. not_clear faults f y h.0);
        answered = λ p n. ((λ h. (y, (let i : n ≡ st = cc in rw i g), cc)), λ h. cc (one_answer statuses st n g h.1, h.2));
        one = inr (inl (q, st, refl, l));
      }

  breaks : (f : Fault) (ts : List ℕ) (k : ℕ) → k ≡ Codes.HEADER-LEN → Gives faults f → ts ≡ tickets (pending_of is)
      → Verdict devid time is m (done (break f ts)) k
  breaks f ts k l g e =
      record {
        accepted = λ w. ((λ h. differ (cc)), λ h. not_clear faults f h.0 g);
        broken = λ n us. ((λ h. ((let i : n ≡ f = cc in rw i g), cc)), λ h. cc (one_answer faults f n g h.0, h.1));
        answered = λ q st. ((λ h. differ (cc)), λ h. not_clear faults f h.0 g);
        one = inr (inr (f, ts, refl, l));
      }

-- of a piece that begins with a whole message
module _ (m rest : List ℕ) (long : Codes.HEADER-LEN ≤ length m) where
  head-same : header (m ++ rest) ≡ header m
  head-same = take-append-le Codes.HEADER-LEN m rest long

  taken-same : (k : ℕ) → Codes.HEADER-LEN ≤ k → header (take k (m ++ rest)) ≡ header m
  taken-same k h = take-take Codes.HEADER-LEN k (m ++ rest) h ∙ head-same

module _ (devid time : ℕ) (is : List Item) (m rest : List ℕ) (command : (header_of (header m)).command ≡ Codes.CMD-SUBMIT)
    (whole : length m ≡ message_len (header m)) where
  submit-long : Codes.HEADER-LEN ≤ length m
  submit-long = omega (arith, whole)

  size_same : message_size (m ++ rest) ≡ length m
  size_same =
      let e = head-same m rest submit-long in
      submit-size (m ++ rest) (ap (λ h. (header_of h).command) e ∙ command) ∙ ap message_len e ∙ sym whole

  verdict : (e : Event) (k : ℕ) → MessageReaches [] (m ++ rest) (done e) k → RightMessage devid time is (take k (m ++ rest)) e
      → Verdict devid time is m (done e) k
  verdict hungry k c r = absurd (omega (arith, c.0, size_same, length-append m rest))
  verdict list k c r = absurd r
  verdict (import st) k c r = absurd r
  verdict (submit u) k c r =
      let l : k ≡ length m = omega (arith, c.1, size_same) in
      let e = take_at m rest k (sym l) in
      accepts devid time is m u k l (rw e at r.1) (rw e at r.3) (rw e at r.4)
  verdict (answer q st) k c r =
      let l : k ≡ length m = omega (arith, c.1, size_same) in
      let e = take_at m rest k (sym l) in
      answers devid time is m q st k l (rw e at r.1) (rw e at r.3) (rw e at r.4)
  verdict (unlink q st o) k c r =
      let l : k ≡ length m = omega (arith, c.1, size_same) in
      absurd (omega (arith, command, rw (taken-same m rest submit-long k (omega arith)) at r.2))
  verdict (break f ts) k c r =
      let l : k ≡ Codes.HEADER-LEN = omega (arith, c.1) in
      breaks devid time is m f ts k l (rw (taken-same m rest submit-long k (omega arith)) at r.1) r.2

module _ (devid time : ℕ) (is : List Item) (m rest : List ℕ) (command : (header_of (header m)).command ≡ Codes.CMD-UNLINK)
    (whole : length m ≡ Codes.HEADER-LEN) where
  unlink-long : Codes.HEADER-LEN ≤ length m
  unlink-long = omega (arith, whole)

  unlink-same : message_size (m ++ rest) ≡ Codes.HEADER-LEN
  unlink-same = unlink-size (m ++ rest) (ap (λ h. (header_of h).command) (head-same m rest unlink-long) ∙ command)

  no_submit : {A : Type 0} (k : ℕ) → k ≡ Codes.HEADER-LEN → (header_of (header (take k (m ++ rest)))).command ≡ Codes.CMD-SUBMIT → A
  no_submit k l c = absurd (omega (arith, command, rw (taken-same m rest unlink-long k (omega arith)) at c))

  unlink_verdict : (e : Event) (k : ℕ) → MessageReaches [] (m ++ rest) (done e) k → RightMessage devid time is (take k (m ++ rest)) e
      → UnlinkVerdict devid is m (done e) k
  unlink_verdict hungry k c r = absurd (omega (arith, c.0, unlink-same, length-append m rest))
  unlink_verdict list k c r = absurd r
  unlink_verdict (import st) k c r = absurd r
  unlink_verdict (submit u) k c r = no_submit k (omega (arith, c.1, unlink-same)) r.2
  unlink_verdict (answer q st) k c r = no_submit k (omega (arith, c.1, unlink-same)) r.2
  unlink_verdict (unlink q st o) k c r =
      let l : k ≡ Codes.HEADER-LEN = omega (arith, c.1, unlink-same) in
      let y : Clear (faults devid time is m) = rw (taken-same m rest unlink-long k (omega arith)) at r.1 in
      record {
        broken = λ f ts. ((λ h. differ (cc)), λ h. not_clear (faults devid time is m) f y h.0);
        answered = ((λ _. y), λ _. (q, st, o, refl));
        whole = l;
      }
  unlink_verdict (break f ts) k c r =
      let l : k ≡ Codes.HEADER-LEN = omega (arith, c.1) in
      let g : Gives (faults devid time is m) f = rw (taken-same m rest unlink-long k (omega arith)) at r.1 in
      let e = r.2 in
      record {
        broken = λ n us. ((λ h. ((let i : n ≡ f = cc in rw i g), cc)), λ h. cc (one_answer (faults devid time is m) f n g h.0, h.1));
        answered = ((λ h. let d = h.3 in differ (cc)), λ y. not_clear (faults devid time is m) f y g);
        whole = l;
      }

feed_clear : (s : Sess) (b : Book) (lent : Buffers) → Agrees s b → Ready s b lent → Clear (feed_rows_by b lent)
feed_clear s b lent a g = (
  (λ h. true≢false (sym h ∙ sym a.closes ∙ ap (λ p. eqb p Limits.CLOSED) g.attached)),
  (
    ⊎_elim (λ h. omega (arith, g.work)) (λ h. omega (arith, g.reply)),
    tt,
  ),
)

-- what is right of every event of a message that reaches so far is right of the event that a feed gives
ready_feed : (s : Sess) (b : Book) (lent : Buffers) (p : List ℕ) (time : ℕ) → Agrees s b → Ready s b lent → RightFeed s b p lent time
    → (P : Outcome Event → ℕ → Type 0)
    → ((e : Event) (k : ℕ) → MessageReaches [] p (done e) k → RightMessage s.link.devid time b.items (take k p) e → P (done e) k)
    → let r = feed_of s lent p time in P r.event r.consumed
ready_feed s b lent p time a g h P f =
    let r = feed_of s lent p time in
    let w : eqb s.link.phase Limits.WAITING ≡ false = ap (λ p. eqb p Limits.WAITING) g.attached in
    let k : MessageReaches b.part p r.event r.consumed = rw w at (reaches s b lent p time h) in
    let k' : MessageReaches [] p r.event r.consumed = rw g.empty at k in
    ⊎_elim (λ i. not_clear (feed_rows_by b lent) i.0 (feed_clear s b lent a g) (h.refuses i.0 i.1).0)
    (λ i.
    let e = i.0 in
    rw i.1 (f e r.consumed (rw i.1 at k') (rw (w, g.empty) at (h.right e i.1).1)))
    (refused_or r.event)

pub accept_iff : AcceptIff
accept_iff t cs lent time m rest g w =
    let s = session_from t cs in
    let b = book_from t cs in
    let h = right_from t cs (feed (m ++ rest) lent time) in
    ready_feed s b lent (m ++ rest) time h.0 g h.1 (Verdict s.link.devid time b.items m)
    (verdict s.link.devid time b.items m rest w.0 w.1)

pub unlink_iff : UnlinkIff
unlink_iff t cs lent time m rest g w =
    let s = session_from t cs in
    let b = book_from t cs in
    let h = right_from t cs (feed (m ++ rest) lent time) in
    ready_feed s b lent (m ++ rest) time h.0 g h.1 (UnlinkVerdict s.link.devid b.items m)
    (unlink_verdict s.link.devid time b.items m rest w.0 w.1)

answered-next : (s : Sess) (b : Book) (p : List ℕ) (lent : Buffers) (time q st : ℕ) → Holds s b (feed p lent time ∷ [])
    → (feed_of s lent p time).event ≡ done (answer q st) → (feed_of s lent p time).next ≡ between s
answered-next s b p lent time q st h e =
    let r = feed_of s lent p time in
    let k = r.consumed in
    let now = subst (λ (o : Outcome Event). Agrees r.next (keep b (fed p o k))) e h.7 in
    let at = subst (λ (o : Outcome Event). Attaches s.table s.link.phase s.link.devid (b.part ++ take k p) (fed p o k) r.next) e h.5 in
    let pend = now.pending ∙ sym h.0.pending in
    let numbers = now.numbers ∙ sym h.0.numbers in
    let message = now.heading (omega arith) in
    λ i.
    record {
      table = h.6 i;
      link =
          record {
            phase = at.0 i;
            devid = at.1 i;
            message = message i;
            counts =
                record {
                  accepted = (numbers i).accepted;
                  returned = (numbers i).returned;
                  unlinked = (numbers i).unlinked;
                  dropped = (numbers i).dropped;
                };
          };
      pend = pend i;
    }

pub answered_stays : AnsweredStays
answered_stays t cs p lent time q st h = answered-next (session_from t cs) (book_from t cs) p lent time q st (held t cs (feed p lent time ∷ [])) h
