-- After every list of calls the session is the one that the book describes, and each answer is right by the book before it.
use Prim.Native.Nat.{ℕ, suc, ◌≤◌, ◌<◌}
use native.Mathlib.Omega.{arith}
use mathlib.Core.Path.{◌≡◌, refl, sym, ap, subst, ◌∙◌}
use mathlib.Core.Logic.{inl, inr, ⊎_elim}
use mathlib.Core.List.{List, [], ◌∷◌, ◌++◌, append-nil}
use mathlib.Core.Bool.{Bool, true, false, cond, not, true≢false}
use mathlib.Core.Option.{Option, none, some}
use lib.Dec.{eqb}
use lib.ListN.{length, take, drop}
use lib.Seq.{sets, append_snoc}
use borrow.Author.Tests.{eqb-true, eqb-false}
use Rattle.wire.specs.Codes
use Rattle.ground.specs.Writing.{over}
use Rattle.messages.specs.Messages.{busid_of, unlink_seqnum, iso_count}
use Rattle.messages.proofs.Headers.{unlink-seqnum}
use Rattle.packets.proofs.Reading.{packets_length}
use Rattle.results.specs.Results.{errors}
use Rattle.replies.specs.Replies.{submit_reply}
use Rattle.exports.specs.Devices.{devices_of}
use Rattle.exports.specs.declared.device.Table.{Table}
use Rattle.lookup.specs.Lookup.{FirstDevice, devid_of}
use Rattle.lookup.proofs.First.{find_first}
use Rattle.transmit.specs.Part.{wire_length}
use Rattle.pending.specs.Pending.{ticket_of, seqnum_of, tickets, find_by, Place, place_by}
use Rattle.pending.specs.declared.urb.Urb.{Urb}
use Rattle.pending.proofs.Finding.{find_some, find_none}
use Rattle.pending.proofs.Halving.{ticket_placed}
use Rattle.limits.specs.Limits
use Rattle.ground.specs.Tests.{Test, first, by_first, pick, by_test}
use Rattle.ground.specs.Rows.{Gives, Clear}
use Rattle.ground.proofs.Match.{Match, gives, clear}
use Rattle.verdicts.specs.Verdicts.{status_sent}
use Rattle.model.specs.Machine.{Fed}
use Rattle.model.specs.State.{Sess, header_in, returned, unlinked}
use Rattle.model.specs.Answers.{Outcome, refused, done, Returned, Event, hungry, list, import, submit, answer, unlink, break, is_hungry}
use Rattle.model.specs.Judging.{grow, judge}
use Rattle.model.specs.Acts.{settles, between, device_of, after_unlink, after, import_bytes, ret_for, reply_to, Buffers, put, feed_bytes, feed_tests_of}
use Rattle.model.specs.Acts.{refused_feed, done_feed, feed_of, results_in, Completion, the_transfer, the_packets, named_place, named}
use Rattle.model.specs.Acts.{completion_tests_of, Complete, refused_completion}
use Rattle.model.specs.Acts.{complete_of, Close, close_of, no_table, fresh, Open, open_of}
use Rattle.model.specs.Book.{Call, feed, complete, close, Entry, fed, completed, closing, Item, Book, opened, with_part, took, mark, Effect, add, settle}
use Rattle.model.specs.Book.{drop_all, shut, nothing, apply, removal, effect_of, keep_event, keep, pending_of, Pending}
use Rattle.model.specs.Cut.{step_all, outcome_reply, replied, written}
use Rattle.model.specs.Claims.{entry_of, next_of, header, feed_rows_by, completion_rows_by, close_rows_by, header_rows_by, RightRequest, RightMessage, by_phase}
use Rattle.model.specs.Claims.{Replies, place_of, body_in, SentAs, header_for, descriptors_for, Right, Agrees, Grown, Moves, consumed_for}
use Rattle.model.specs.Claims.{Progresses, AttachesBy}
use Rattle.model.specs.Claims.{descriptors_at, descriptor_count, Attaches, Holds, EveryRun}
use Rattle.ground.proofs.Cases.{differ, never_true}
use Rattle.model.proofs.Facts.{sum, grown_refl, tickets_rise, mem_to, mem_from, only_found, pending-before}
use Rattle.model.proofs.Packets.{fits_many}
use Rattle.model.proofs.Tables.{feed_match, named-first, completion_match, sent_as}
use Rattle.model.proofs.Steps.{message_in, heading, bodied, header-in, packets-in, place_in, room_in, short, session_of, grow_is, Fit}
use Rattle.model.proofs.Steps.{fit_part, Allowed, act}
use Rattle.model.proofs.Steps.{phase_after, settles-first, step, act_is}
use Rattle.model.proofs.Judged.{Going, came, Judged, looked-up, judge-right}
use Rattle.model.proofs.Cut.{lawful}
use Rattle.model.proofs.Untouched.{untouched}

-- ## After an event that is right by the book

pub record After (t : Table) (phase devid : ℕ) (b : Book) (e : Event) (s : Sess) : Type 0 where
  pub session : s ≡ session_of t s.link.phase s.link.devid (keep_event b e)
  pub fit : Fit s.link.phase (keep_event b e)
  pub going : Going s.link.phase (keep_event b e)
  pub grown : Grown b.items (keep_event b e).items
  pub moves : (p : List ℕ) (k : ℕ) → Moves b.items (fed p (done e) k) (keep_event b e).items
  pub attaches : AttachesBy t phase devid b.part e s

-- a session that a book describes is described with its own phase and devid
described : (t : Table) (phase devid : ℕ) (b : Book) (s : Sess) → s ≡ session_of t phase devid b → s ≡ session_of t s.link.phase s.link.devid b
described t phase devid b s p = p ∙ sym (ap (λ (r : Sess). session_of t r.link.phase r.link.devid b) p)

-- where no message is in progress nothing is asked of it
no_part : (phase : ℕ) (b : Book) → Going phase (with_part [] b)
no_part phase b = record { request = λ w l. absurd (omega arith); message = λ w l. absurd (omega arith) }

-- of an event that only a request has, or only a message
asked : (c : Bool) {P : Type 0} → by_phase c P ⊥ → P
asked true p = p
asked false p = absurd p

said : (c : Bool) {P : Type 0} → by_phase c ⊥ P → P
said true p = absurd p
said false p = p

module _ (t : Table) (phase devid : ℕ) (b : Book) (f : Fit phase b) (o : b.closed ≡ false) where
  abbrev now : Sess
  now = session_of t phase devid b

  abbrev Leaves : Event → Type 0
  Leaves e = After t phase devid b e (after now e)

  -- what an event does to the items is what its effect does
  moved : (e : Event) → Allowed phase b (effect_of e) → (p : List ℕ) (k : ℕ) → Moves b.items (fed p (done e) k) (keep_event b e).items
  moved hungry a p k = (step phase b (effect_of hungry) f a).does
  moved list a p k = (step phase b (effect_of list) f a).does
  moved (import st) a p k = either (eqb st 0)
    where
      either : (c : Bool) → (apply b (cond c nothing shut)).items ≡ b.items
      either true = refl
      either false = refl
  moved (submit u) a p k = (step phase b (effect_of (submit u)) f a).does
  moved (answer q st) a p k = (step phase b (effect_of (answer q st)) f a).does
  moved (unlink q st none) a p k = (step phase b (effect_of (unlink q st none)) f a).does
  moved (unlink q st (some n)) a p k = (step phase b (effect_of (unlink q st (some n))) f a).does
  moved (break n ts) a p k = (step phase b (effect_of (break n ts)) f a).does

  -- an event that ends the message, and does to the session what its effect does
  ended : (e : Event) → is_hungry e ≡ false → Allowed phase b (effect_of e) → after now e ≡ between (act now (effect_of e))
      → AttachesBy t phase devid b.part e (after now e) → Leaves e
  ended e h a s d =
      let x = effect_of e in
      let g = step phase b x f a in
      let next : with_part [] (apply b x) ≡ keep_event b e = rw h in
      let goes : after now e ≡ session_of t (phase_after phase x) devid (with_part [] (apply b x)) = s ∙ ap between (act_is t phase devid b x f a) in
      let in-phase = sym (ap (λ (r : Sess). r.link.phase) goes) in
      record {
        session = described t (phase_after phase x) devid (keep_event b e) (after now e) (goes ∙ ap (session_of t (phase_after phase x) devid) next);
        fit = subst (λ (n : ℕ). Fit n (keep_event b e)) in-phase (subst (Fit (phase_after phase x)) next (fit_part _ (apply b x) [] g.fit));
        going = subst (λ (n : ℕ). Going n (keep_event b e)) in-phase (subst (Going (phase_after phase x)) next (no_part _ (apply b x)));
        grown = subst (λ (k : Book). Grown b.items k.items) next g.grown;
        moves = moved e a;
        attaches = d;
      }

  -- an import that a device of the table was found for, and one that none was
  after-found : length b.part < Codes.HEADER-LEN → (i : ℕ) → FirstDevice (devices_of t) (busid_of (header b.part)) i → Leaves (import 0)
  unfolding pick
  after-found l i h =
      let found = looked-up t phase devid b l ∙ ((find_first t (busid_of (header b.part))).0 i).1 h in
      record {
        session = refl;
        fit = record { closes = sym o; waiting = λ w. absurd (omega arith); counted = f.counted; seqnums = f.seqnums; none-closed = f.none-closed };
        going = no_part _ b;
        grown = grown_refl b.items;
        moves = moved (import 0) tt;
        attaches = (refl, i, h, ap (λ k. devid_of (device_of t k)) found);
      }

  after_unknown : b.items ≡ [] → Leaves (import 1)
  unfolding pick
  after_unknown h = ended (import 1) refl h refl (refl, refl)

  after-import : (time st : ℕ) → Judged t phase devid time b (import st) → Leaves (import st)
  after-import time st r =
      let q = asked (eqb phase Limits.WAITING) r.0 in
      ⊎_elim (λ p. subst (λ (k : ℕ). Leaves (import k)) (sym p.0) (after-found (omega (arith, q.0)) p.1 p.2))
      (λ p.
      let empty = subst (λ (k : ℕ). Allowed phase b (effect_of (import k))) p.0 r.1 in
      subst (λ (k : ℕ). Leaves (import k)) (sym p.0) (after_unknown empty))
      q.3

  -- an unlink takes out by the seqnum the URB that has the ticket
  unlinked_is : (time q st : ℕ) (v : Option ℕ) → Judged t phase devid time b (unlink q st v) → after_unlink now v ≡ act now (removal v)
  unlinked_is time q st none r = refl
  unlinked_is time q st (some k) r =
      let m = said (eqb phase Limits.WAITING) r.0 in
      let w = m.4.1 in
      let u = w.0 in
      let e : unlink_seqnum (header_in (message_in b.part)) ≡ seqnum_of u =
      ap unlink_seqnum (header-in b.part (omega (arith, m.0))) ∙ unlink-seqnum (header b.part) ∙ sym w.2 in
      let h = only_found seqnum_of (pending_of b.items) u f.seqnums (mem_from u b.items w.1) in
      ap (λ n. settles (place_by seqnum_of n now.pend) unlinked now) e ∙ settles-first t phase devid b seqnum_of (seqnum_of u) u unlinked f h
      ∙ ap (λ n. act now (settle n unlinked)) w.3

  -- a message that goes on
  after-hungry : Going phase b → Leaves hungry
  after-hungry g =
      record {
        session = refl;
        fit = f;
        going = g;
        grown = grown_refl b.items;
        moves = moved hungry tt;
        attaches = (refl, refl);
      }

  pub after-right : (time : ℕ) (e : Event) → Judged t phase devid time b e → Leaves e
  after-right time hungry r = after-hungry (r.2 refl)
  after-right time list r = ended list refl r.1 refl (refl, refl)
  after-right time (import st) r = after-import time st r
  after-right time (submit u) r = ended (submit u) refl r.1 refl (refl, refl)
  after-right time (answer q st) r = ended (answer q st) refl r.1 refl (refl, refl)
  after-right time (unlink q st v) r = ended (unlink q st v) refl r.1 (ap between (unlinked_is time q st v r)) (unlink_stays v)
    where
      unlink_stays : (v : Option ℕ) → AttachesBy t phase devid b.part (unlink q st v) (after now (unlink q st v))
      unlink_stays none = (refl, refl)
      unlink_stays (some k) = (refl, refl)
  after-right time (break n ts) r = ended (break n ts) refl r.1 refl (refl, refl)

-- ## A piece

quiet_not : {A : Type 0} (e : Event) → e ≡ hungry → is_hungry e ≡ false → A
quiet_not e p h = absurd (true≢false (sym (ap is_hungry p) ∙ h))

module _ (t : Table) (phase devid time : ℕ) where
  abbrev at : Book → Sess
  at b = session_of t phase devid b

  abbrev RightAt : Book → List ℕ → Event → Type 0
  RightAt b m e = by_phase (eqb phase Limits.WAITING) (RightRequest t b.items m e) (RightMessage devid time b.items m e)

  -- m: the bytes consumed for the message; n: those of the piece
  pub record FedRight (b : Book) (m : List ℕ) (n : ℕ) (r : Fed Sess Event Buffers) : Type 0 where
    pub right : RightAt b m r.event
    pub left : After t phase devid (with_part m b) r.event r.next
    pub all : r.event ≡ hungry → r.consumed ≡ n

  -- where a message goes on, nothing is said
  idle-right : (b : Book) → Going phase b → RightAt b b.part hungry
  idle-right b g = by-phase (eqb phase Limits.WAITING) refl
    where
      by-phase : (c : Bool) → eqb phase Limits.WAITING ≡ c
          → by_phase c (RightRequest t b.items b.part hungry) (RightMessage devid time b.items b.part hungry)
      by-phase true e =
          short (length b.part) Codes.OP-LEN (λ l. inl l)
          λ l. let r = g.request (eqb-true phase Limits.WAITING e) l in inr (l, r.1, r.0.0, r.0.1)
      by-phase false e =
          short (length b.part) Codes.HEADER-LEN (λ l. inl l)
          λ l. let r = g.message (eqb-false phase Limits.WAITING e) l in inr (l, r.0.0 devid, r.0.1, r.1)

  fed-right : (xs : List ℕ) (lent : Buffers) (b : Book) → Fit phase b → b.closed ≡ false → Going phase b
      → let r = feed_bytes (at b) lent xs time in FedRight b (b.part ++ take r.consumed xs) (length xs) r
  unfolding Rattle.model.specs.Machine.feed
  fed-right [] lent b f o g =
      subst (λ (m : List ℕ). FedRight b m 0 (record { event = hungry; consumed = 0; buffers = lent; next = at b })) (sym (append-nil b.part))
      (record {
        right = idle-right b g;
        left = after-hungry t phase devid b f o g;
        all = λ _. refl;
      })
  fed-right (x ∷ xs) lent b f o g =
      let b' = took b (x ∷ []) in
      let f' = fit_part phase b b'.part f in
      let j = judge-right t phase devid time b' f' o (came phase b x g) in
      rw (grow_is t phase devid b x)
      (by_test (λ (r : Fed Sess Event Buffers). FedRight b (b.part ++ take r.consumed (x ∷ xs)) (suc (length xs)) r)
      (λ h.
      let q = fed-right xs (put (at b) x lent) b' f' o (j.2 ((lawful time).silent (at b') h)) in
      let r = feed_bytes (at b') (put (at b) x lent) xs time in
      let e = append_snoc b.part x (take r.consumed xs) in
      record {
        right = subst (λ (m : List ℕ). RightAt b m r.event) e q.right;
        left = subst (λ (m : List ℕ). After t phase devid (with_part m b) r.event r.next) e q.left;
        all = λ k. ap suc (q.all k);
      })
      λ h. record { right = j.0; left = after-right t phase devid b' f' o time (judge time (at b')) j; all = λ k. quiet_not (judge time (at b')) k h })

  -- the session when some bytes are in
  all_in : (xs : List ℕ) (b : Book) → step_all grow (at b) xs ≡ at (took b xs)
  all_in [] b = ap (λ m. at (with_part m b)) (sym (append-nil b.part))
  all_in (x ∷ xs) b = rw (grow_is t phase devid b x) (all_in xs (took b (x ∷ [])) ∙ ap (λ m. at (with_part m b)) (append_snoc b.part x xs))

  -- its reply to an event that is right by those bytes
  module _ (b : Book) (m : List ℕ) where
    abbrev reply-to : Event → List ℕ
    reply-to e = reply_to (at (with_part m b)) e

    import_is : (st : ℕ) → RightAt b m (import st) → Replies t m (done (import st)) (reply-to (import st))
    unfolding reply_to
    import_is st r =
        let q = asked (eqb phase Limits.WAITING) r in
        let f = find_first t (busid_of (header m)) in
        let l = looked-up t phase devid (with_part m b) (omega (arith, q.0)) in
        ⊎_elim
        (λ p.
        let e = ap (import_bytes t) (l ∙ (f.0 p.1).1 p.2) in
        subst (λ (k : ℕ). Replies t m (done (import k)) (reply-to (import st))) (sym p.0) (p.1, p.2, e))
        (λ p.
        let e = ap (import_bytes t) (l ∙ f.1.1 p.1) in
        subst (λ (k : ℕ). Replies t m (done (import k)) (reply-to (import st))) (sym p.0) e)
        q.3

    answer_is : (q st : ℕ) → RightAt b m (answer q st) → Replies t m (done (answer q st)) (reply-to (answer q st))
    unfolding reply_to submit_reply
    answer_is q st r =
        let s = said (eqb phase Limits.WAITING) r in
        let l : Codes.HEADER-LEN ≤ length m = omega (arith, s.0) in
        let e = header-in m l in
        let p = packets-in m l in
        let n = packets_length (descriptor_count (header m)) (drop (descriptors_at (header m)) m) in
        rw (e, p, n, s.4)

    reply_is : (o : Outcome Event) → ((e : Event) → o ≡ done e → RightAt b m e) → Replies t m o (outcome_reply (at (with_part m b)) o)
    unfolding reply_to
    reply_is (refused n) r = refl
    reply_is (done hungry) r = refl
    reply_is (done list) r = refl
    reply_is (done (import st)) r = import_is st (r (import st) refl)
    reply_is (done (submit u)) r = refl
    reply_is (done (answer q st)) r = answer_is q st (r (answer q st) refl)
    reply_is (done (unlink q st o)) r = refl
    reply_is (done (break n ts)) r = refl

-- ## What a call leaves

-- the message in progress goes on by the answer alone
apply-part : (b : Book) (x : Effect) → (apply b x).part ≡ b.part
apply-part b (add u) = refl
apply-part b (settle t e) = refl
apply-part b (drop_all ts) = refl
apply-part b shut = refl
apply-part b nothing = refl

progresses : (b : Book) (a : Entry) → Progresses b.part a (keep b a).part
progresses b (fed p (refused n) k) = refl
progresses b (fed p (done e) k) = ((λ h. rw h (apply-part (took b (take k p)) (effect_of e))), λ h. rw h)
progresses b (completed t (refused n)) = refl
progresses b (completed t (done r)) = refl
progresses b (closing (refused n)) = refl
progresses b (closing (done ts)) = refl

-- a header that no row was against, with fewer URBs pending
fewer : (devid : ℕ) (is js : List Item) (h : List ℕ) → ((u : Urb) → Pending js u → Pending is u)
    → Clear (header_rows_by devid is h) → Clear (header_rows_by devid js h)
fewer devid is js h f y =
    let rest = y.1.1.1.1 in
    (y.0, (y.1.0, (y.1.1.0, (y.1.1.1.0, ((λ q. rest.0 (q.0, (q.1.0, f q.1.0 q.1.1, q.1.2))), rest.1)))))

pub record Left (t : Table) (phase devid : ℕ) (b : Book) (a : Entry) (s : Sess) : Type 0 where
  pub session : s ≡ session_of t s.link.phase s.link.devid (keep b a)
  pub fit : Fit s.link.phase (keep b a)
  pub going : Going s.link.phase (keep b a)
  pub grown : Grown b.items (keep b a).items
  pub moves : Moves b.items a (keep b a).items
  pub attaches : Attaches t phase devid (consumed_for b.part a) a s

module _ (t : Table) (phase devid : ℕ) (b : Book) (f : Fit phase b) (g : Going phase b) where
  abbrev now' : Sess
  now' = session_of t phase devid b

  -- a refusal leaves all as it was
  still : (a : Entry) → b ≡ keep b a → Moves b.items a (keep b a).items → Attaches t phase devid (consumed_for b.part a) a now'
      → Left t phase devid b a now'
  still a k m d =
      record {
        session = ap (session_of t phase devid) k;
        fit = subst (Fit phase) k f;
        going = subst (Going phase) k g;
        grown = subst (λ (c : Book). Grown b.items c.items) k (grown_refl b.items);
        moves = m;
        attaches = d;
      }

  -- ## A feed

  module _ (p : List ℕ) (lent : Buffers) (time : ℕ) where
    abbrev message-in : Fed Sess (Outcome Event) Buffers → List ℕ
    message-in r = b.part ++ take r.consumed p

    pub record FeedHolds (r : Fed Sess (Outcome Event) Buffers) : Type 0 where
      pub refuses : (n : ℕ) → r.event ≡ refused n → Gives (feed_rows_by b lent) n × (r.consumed ≡ 0) × (r.buffers ≡ lent) × (r.next ≡ now')
      pub right : (e : Event) → r.event ≡ done e → Clear (feed_rows_by b lent) × RightAt t phase devid time b (message-in r) e
      pub all : r.event ≡ done hungry → r.consumed ≡ length p
      pub left : Left t phase devid b (fed p r.event r.consumed) r.next

    feed-refused : (n : ℕ) → first (feed_tests_of now' lent) ≡ some n → FeedHolds (refused_feed now' lent n)
    feed-refused n h =
        let given = gives (feed_tests_of now' lent) (feed_rows_by b lent) (feed_match now' b lent f.closes) n h in
        record {
          refuses = λ k e. (let q : k ≡ n = cc in rw q given, refl, refl, refl);
          right = λ e k. differ (cc);
          all = λ e. differ (cc);
          left = still (fed p (refused n) 0) refl refl (refl, refl);
        }

    feed-done : first (feed_tests_of now' lent) ≡ none → FeedHolds (done_feed (feed_bytes now' lent p time))
    feed-done h =
        let y = clear (feed_tests_of now' lent) (feed_rows_by b lent) (feed_match now' b lent f.closes) h in
        let r = feed_bytes now' lent p time in
        let q = fed-right t phase devid time p lent b f (never_true b.closed y.0) g in
        record {
          refuses = λ n e. differ (cc);
          right = λ e k. let i : r.event ≡ e = cc in (y, subst (RightAt t phase devid time b (b.part ++ take r.consumed p)) i q.right);
          all = λ k. q.all (cc);
          left =
              record {
                session = q.left.session;
                fit = q.left.fit;
                going = q.left.going;
                grown = q.left.grown;
                moves = q.left.moves p r.consumed;
                attaches = q.left.attaches;
              };
        }

    feed-holds : FeedHolds (feed_of now' lent p time)
    unfolding feed_of
    feed-holds = by_first FeedHolds (first (feed_tests_of now' lent)) feed-refused feed-done

    -- the buffers, by the laws of every feed
    feed-reply : let r = feed_of now' lent p time in
        (bytes : List ℕ)
        × Replies t (message-in r) r.event bytes
        × (r.buffers.reply ≡ over bytes lent.reply)
        × (written now' p r ≡ length bytes)
    feed-reply =
        let r = feed_of now' lent p time in (
          replied now' p r,
          rw (all_in t phase devid time (take r.consumed p) b) (reply_is t phase devid time b (message-in r) r.event (λ e h. (feed-holds.right e h).1)),
          (untouched now' lent p time).reply,
          refl,
        )

    feed-work : let r = feed_of now' lent p time in r.buffers.work ≡ sets lent.work (place_of b.part) (body_in b.part (take r.consumed p))
    feed-work = (untouched now' lent p time).work ∙ rw (place_in b.part, room_in b.part)

  -- ## A completion

  -- what is pending is fewer, and the message in progress is as it was
  settled_going : (k : ℕ) → Going phase (apply b (settle k returned))
  settled_going k =
      let js = mark k returned b.items in
      let less = pending-before k returned b.items in
      record {
        request = g.request;
        message =
            λ w l. let r = g.message w l in (((λ d. fewer d b.items js (header b.part) less (r.0.0 d)), r.0.1), r.1);
      }

  module _ (c : Completion) where
    abbrev held : Option Urb
    held = named now' c

    -- which is the one that is pending under its ticket
    held_first : held ≡ find_by ticket_of c.ticket (pending_of b.items)
    held_first = named-first b.items c.ticket f.counted

    pub record CompleteHolds (r : Complete) : Type 0 where
      pub refuses : (n : ℕ) → r.answer ≡ refused n → Gives (completion_rows_by b c) n × (r.header ≡ c.header) × (r.next ≡ now')
      pub accepts : (a : Returned) → r.answer ≡ done a
          → Clear (completion_rows_by b c)
          × ((u : Urb)
          × Pending b.items u
          × (ticket_of u ≡ c.ticket)
          × (a.wire ≡ wire_length u.transfer.direction c.actual (length (results_in c.kind)))
          × SentAs u c a.status
          × (r.header ≡ over (header_for u c a.status ++ descriptors_for u c) c.header))
      pub left : Left t phase devid b (completed c.ticket r.answer) r.next

    abbrev tests : List (Test ℕ)
    tests = completion_tests_of now' c

    match : Match tests (completion_rows_by b c)
    match = completion_match now' b c f.closes refl f.counted

    complete-refused : (n : ℕ) → first tests ≡ some n → CompleteHolds (refused_completion now' c n)
    complete-refused n h =
        record {
          refuses = λ k e. (let q : k ≡ n = cc in rw q (gives tests (completion_rows_by b c) match n h), refl, refl);
          accepts = λ w e. differ (cc);
          left = still (completed c.ticket (refused n)) refl refl (refl, refl);
        }

    -- a completion that isn't refused finds its URB
    complete-found : first tests ≡ none → (o : Option Urb) → held ≡ o → (u : Urb) × (held ≡ some u)
    complete-found h none e =
        let missing = (find_none ticket_of c.ticket (pending_of b.items)).0 (sym held_first ∙ e) in
        absurd ((clear tests (completion_rows_by b c) match h).1.1.0 (λ u m k. missing u (mem_from u b.items m) k))
    complete-found h (some u) e = (u, e)

    complete-left : (u : Urb) (r : Returned) → held ≡ some u
        → Left t phase devid b (completed c.ticket (done r)) (settles (named_place now' c) returned now')
    complete-left u r e =
        let h = sym held_first ∙ e in
        let q = find_some ticket_of c.ticket (pending_of b.items) u h in
        let s = step phase b (settle c.ticket returned) f (u, h) in
        record {
          session =
              ap (λ (p : Place). settles p returned now') (ticket_placed c.ticket (pending_of b.items) (tickets_rise b.items f.counted))
              ∙ settles-first t phase devid b ticket_of c.ticket u returned f h
              ∙ ap (λ n. act now' (settle n returned)) q.0
              ∙ act_is t phase devid b (settle c.ticket returned) f (u, h);
          fit = s.fit;
          going = settled_going c.ticket;
          grown = s.grown;
          moves = s.does;
          attaches = (refl, refl);
        }

    -- what is answered, by what is pending under the ticket
    abbrev answered : Option Urb → Returned
    answered o =
        let u = the_transfer o in
        record { wire = wire_length u.direction c.actual (iso_count u.packets); status = status_sent u c.status c.actual }

    -- its results are as many as the packets of the URB
    as_many : (u : Urb) → Pending b.items u → ticket_of u ≡ c.ticket → Clear (completion_rows_by b c)
        → iso_count u.transfer.packets ≡ length (results_in c.kind)
    as_many u m k y = fits_many c.kind c.actual u (λ x. y.1.1.1.1.0 (inr (u, m, k, x)))

    -- the header of its reply, and the descriptors behind it
    replied_with : (u : Urb) (r : Returned) → held ≡ some u → answered held ≡ r
        → let rs = results_in c.kind in
        over (submit_reply (ret_for (the_transfer held) (answered held).status c.actual (errors rs)) (the_packets held) rs) c.header
        ≡ over (header_for u c r.status ++ descriptors_for u c) c.header
    unfolding submit_reply
    replied_with u r p e =
        let rs = results_in c.kind in
        λ i. over (submit_reply (ret_for (the_transfer (p i)) (e i).status c.actual (errors rs)) (the_packets (p i)) rs) c.header

    complete-holds : CompleteHolds (complete_of now' c)
    unfolding complete_of
    complete-holds =
        by_first CompleteHolds (first tests) complete-refused
        λ h.
        let w = complete-found h held refl in
        let u = w.0 in
        let q = find_some ticket_of c.ticket (pending_of b.items) u (sym held_first ∙ w.1) in
        record {
          refuses = λ n k. differ (cc);
          accepts =
              λ r k.
              let e : answered held ≡ r = cc in
              let f : answered (some u) ≡ r = ap answered (sym w.1) ∙ e in
              let y = clear tests (completion_rows_by b c) match h in
              let m = mem_to u b.items q.1 in
              let long = ap (λ (z : Returned). z.wire) (sym f) ∙ ap (wire_length u.transfer.direction c.actual) (as_many u m q.0 y) in
              let sent = subst (λ (z : Returned). SentAs u c z.status) f (sent_as u c) in
              (y, (u, m, q.0, long, sent, replied_with u r w.1 e));
          left = complete-left u (answered held) w.1;
        }

  -- ## Closing

  pub record CloseHolds (r : Close) : Type 0 where
    pub refuses : (n : ℕ) → r.answer ≡ refused n → Gives (close_rows_by b) n × (r.next ≡ now')
    pub accepts : (ts : List ℕ) → r.answer ≡ done ts → Clear (close_rows_by b) × (ts ≡ tickets (pending_of b.items))
    pub left : Left t phase devid b (closing r.answer) r.next

  close-holds : CloseHolds (close_of now')
  unfolding close_of
  close-holds =
      by_test CloseHolds
      (λ h.
      record {
        refuses = λ n e. (inl (sym f.closes ∙ h, let q : n ≡ Limits.SESSION-CLOSED = cc in q), refl);
        accepts = λ ts e. differ (cc);
        left = still (closing (refused Limits.SESSION-CLOSED)) refl refl (refl, refl);
      })
      λ h.
      let ts = tickets (pending_of b.items) in
      let s = step phase b (drop_all ts) f refl in
      record {
        refuses = λ n e. differ (cc);
        accepts = λ us e. (((λ k. true≢false (sym k ∙ sym f.closes ∙ h)), tt), cc);
        left =
            record {
              session = ap between (act_is t phase devid b (drop_all ts) f refl);
              fit = fit_part _ _ [] s.fit;
              going = no_part _ (apply b (drop_all ts));
              grown = s.grown;
              moves = s.does;
              attaches = (refl, refl);
            };
      }

-- ## Every list of calls

agrees : (t : Table) (phase devid : ℕ) (b : Book) → Fit phase b → Agrees (session_of t phase devid b) b
agrees t phase devid b f =
    record {
      closes = f.closes;
      pending = refl;
      numbers = refl;
      sum = sum b.items;
      counted = f.counted;
      rising = tickets_rise b.items f.counted;
      seqnums = f.seqnums;
      none-closed = f.none-closed;
      none_waiting = f.waiting;
      heading = heading b.part;
      bodied = bodied b.part;
    }

right : (t : Table) (phase devid : ℕ) (b : Book) → Fit phase b → Going phase b → (c : Call) → Right (session_of t phase devid b) b c
right t phase devid b f g (feed p lent time) =
    let h = feed-holds t phase devid b f g p lent time in
    record {
      refuses = h.refuses;
      right = h.right;
      all = h.all;
      reply = feed-reply t phase devid b f g p lent time;
      work = feed-work t phase devid b f g p lent time;
    }
right t phase devid b f g (complete c) = let h = complete-holds t phase devid b f g c in record { refuses = h.refuses; accepts = h.accepts }
right t phase devid b f g close = let h = close-holds t phase devid b f g in record { refuses = h.refuses; accepts = h.accepts }

leaves : (t : Table) (phase devid : ℕ) (b : Book) → Fit phase b → Going phase b → (c : Call)
    → let s = session_of t phase devid b in Left t phase devid b (entry_of s c) (next_of s c)
leaves t phase devid b f g (feed p lent time) = (feed-holds t phase devid b f g p lent time).left
leaves t phase devid b f g (complete c) = (complete-holds t phase devid b f g c).left
leaves t phase devid b f g close = (close-holds t phase devid b f g).left

holds : (cs : List Call) (t : Table) (phase devid : ℕ) (b : Book) → Fit phase b → Going phase b → Holds (session_of t phase devid b) b cs
holds [] t phase devid b f g = agrees t phase devid b f
holds (c ∷ cs) t phase devid b f g =
    let s = session_of t phase devid b in
    let s' = next_of s c in
    let b' = keep b (entry_of s c) in
    let l = leaves t phase devid b f g c in (
      agrees t phase devid b f,
      right t phase devid b f g c,
      l.grown,
      l.moves,
      progresses b (entry_of s c),
      l.attaches,
      ap (λ r. r.table) l.session,
      subst (λ (r : Sess). Holds r b' cs) (sym l.session) (holds cs t s'.link.phase s'.link.devid b' l.fit l.going),
    )

start : (t : Table) (phase : ℕ) (good : Bool) → eqb phase Limits.CLOSED ≡ not good → (cs : List Call) → Holds (fresh t phase) (opened good) cs
start t phase good e cs =
    holds cs t phase 0 (opened good) (record { closes = e; waiting = λ _. refl; counted = tt; seqnums = tt; none-closed = λ _. refl })
    (no_part phase (opened good))

pub every_run : EveryRun
unfolding open_of
every_run t cs =
    by_test (λ (r : Open). Holds r.next (opened r.good) cs) (λ _. start t Limits.WAITING true refl cs)
    (λ _. start (no_table t) Limits.CLOSED false refl cs)
