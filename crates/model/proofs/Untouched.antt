-- What a feed leaves as it was.
use Prim.Native.Nat.{ℕ, suc, ◌+◌, ◌*◌, ◌≤◌, ◌<◌}
use native.Mathlib.Omega.{arith}
use mathlib.Core.Path.{◌≡◌, refl, sym, ap, subst, ◌∙◌}
use mathlib.Core.List.{List, [], ◌∷◌, ◌++◌}
use mathlib.Core.Bool.{false}
use mathlib.Core.Option.{Option, none, some}
use borrow.Author.Tests.{ltb-true, eqb-true, eqb-false}
use lib.ListN.{length, take, drop, set, length-take, drop_of_length-le}
use lib.Seq.{sets, drop_at, drop-nil, take-set-le, drop-set-lt}
use Rattle.wire.specs.Codes
use Rattle.ground.specs.Writing.{over}
use Rattle.messages.specs.Messages.{body_len, unlink_seqnum, header_of, request_of}
use Rattle.messages.specs.declared.message.Header.{Header}
use Rattle.std.specs.Prelude.{Option as Maybe, Some, None}
use Rattle.replies.specs.Replies.{submit_reply}
use Rattle.replies.proofs.Laws.{reply-length}
use Rattle.pending.specs.Pending.{seqnum_of, find_by}
use Rattle.pending.specs.declared.urb.Urb.{Urb}
use Rattle.limits.specs.Limits
use Rattle.ground.specs.Tests.{first, decide, by_test, by_first}
use Rattle.verdicts.specs.Verdicts
use Rattle.model.specs.Machine.{Fed, feed}
use Rattle.model.specs.State.{Message, partly, headed, Sess, header_in, room, place}
use Rattle.model.specs.Answers.{Outcome, refused, done, Event, is_hungry}
use Rattle.model.specs.Judging
use Rattle.model.specs.Judging.{grown_by, grow, judge}
use Rattle.model.specs.Acts
use Rattle.model.specs.Acts.{Buffers, put, after, reply_to, write_reply, feed_bytes, feed_of, done_feed, Complete, complete_of, Close, close_of}
use Rattle.model.specs.Cut.{step_all, taken, replied, body_placed, Heading, Feeding, Leaving, Untouched, but_work, lent, WorkFree, Keeps}
use Rattle.model.proofs.Cutting
use Rattle.model.proofs.Cut.{lawful}
use Rattle.model.proofs.Growth.{holding, grow_is, grown-room, grow_body, grow-place, put-all}

-- ## What is judged when

-- None past the header came yet.
abbrev InFront : Sess → Type 0
InFront s = place s.link.message ≡ 0

-- If the header is whole, it announces more than what came.
abbrev Announced : Message → Type 0
Announced (partly bytes) = Unit
Announced (headed h body ds) = body < body_len h

-- A feed goes on within a request, within a header, within a body.
record Waits (s : Sess) : Type 0 where
  request : s.link.phase ≡ Limits.WAITING → Heading s.link.message
  message : (s.link.phase ≡ Limits.WAITING → ⊥) → Announced s.link.message

-- A list, an unlink and a break come with a byte of the header.
abbrev Judged : Sess → Event → Type 0
Judged s Event.hungry = Waits s
Judged s Event.list = InFront s
Judged s (Event.import st) = Unit
Judged s (Event.submit u) = Unit
Judged s (Event.answer q st) = Unit
Judged s (Event.unlink q st t) = InFront s
Judged s (Event.break f ts) = InFront s

judged_unlink : (s : Sess) (q : ℕ) (u : Option Urb) → InFront s → Judged s (Judging.unlinks q u)
judged_unlink s q none f = f
judged_unlink s q (some u) f = f

judged_import : (s : Sess) (f : Maybe ℕ) → Judged s (Judging.imports f)
judged_import s (Some i) = tt
judged_import s None = tt

module _ (time : ℕ) (s : Sess) (n : s.link.phase ≡ Limits.WAITING → ⊥) where
  announced : Announced s.link.message → Waits s
  announced a = record { request = λ w. absurd (n w); message = λ _. a }

  -- whatever its descriptors are taken for
  judged_submit : (h : Header) (body : ℕ) (ds es : List ℕ) → s.link.message ≡ headed h body ds → Judged s (Judging.submitting time s h body es)
  unfolding Judging.submitting Judging.submitted
  judged_submit h body ds es e =
      by_test (Judged s) (λ l. announced (rw e (ltb-true body (body_len h) l)))
      (λ _. by_first (Judged s) (first (Judging.submit_tests_of h es s)) (λ _ _. tt) (λ _. tt))

  judged_header : (h : Header) (ds : List ℕ) → s.link.message ≡ headed h 0 ds → Judged s (Judging.whole_header time s h)
  unfolding Judging.whole_header
  judged_header h ds e =
      let f : InFront s = rw e in
      by_first (Judged s) (first (Judging.header_tests_of h s.link.devid s.pend)) (λ _ _. f)
      (λ _. by_test (Judged s) (λ _. judged_submit h 0 ds [] e)
      (λ _. judged_unlink s h.transfer.seqnum (find_by seqnum_of (unlink_seqnum h) s.pend) f))

  judged_message : (m : Message) → s.link.message ≡ m → Judged s (Judging.message time s m)
  unfolding Judging.message
  judged_message (partly bytes) e = announced (rw e tt)
  judged_message (headed h body ds) e =
      by_test (Judged s) (λ z. judged_header h ds (e ∙ ap (λ n. headed h n ds) (eqb-true body 0 z))) (λ _. judged_submit h body ds ds e)

module _ (s : Sess) (w : s.link.phase ≡ Limits.WAITING) where
  judged_request : (m : Message) → s.link.message ≡ m → Judged s (Judging.request s m)
  unfolding Judging.request Judging.requested
  judged_request (headed h body ds) e = judged_import s (Judging.looked_up s)
  judged_request (partly m) e =
      let f : InFront s = rw e in
      let waits : length m < Codes.HEADER-LEN → Waits s = λ h. record { request = λ _. rw e h; message = λ n. absurd (n w) } in
      by_test (Judged s) (λ l. waits (omega (arith, ltb-true))) (λ _. by_test (Judged s)
      (λ l. by_first (Judged s) (first (Verdicts.request_tests (request_of m))) (λ _ _. f)
      (λ _. by_test (Judged s) (λ _. f) (λ _. waits (omega (arith, eqb-true (length m) Codes.OP-LEN l)))))
      (λ _. by_test (Judged s) (λ l. waits (omega (arith, ltb-true))) (λ _. judged_import s (Judging.looked_up s))))

judged : (time : ℕ) (s : Sess) → Judged s (judge time s)
unfolding judge
judged time s =
    by_test (Judged s) (λ w. judged_request s (eqb-true _ _ w) s.link.message refl)
    (λ n. judged_message time s (eqb-false _ _ n) s.link.message refl)

-- ## Every feed

empty_is : (xs : List ℕ) → length xs ≡ 0 → xs ≡ []
empty_is [] h = refl
empty_is (x ∷ xs) h = absurd (omega arith)

-- up to a header's byte no byte of the body came
front_none : (xs : List ℕ) (s : Sess) → InFront (step_all grow s xs) → drop (room s.link.message) xs ≡ []
front_none xs s f = empty_is (drop (room s.link.message) xs) (omega (arith, grow-place xs s))

-- a session that has no body to come: it waits for a request, or the bytes that come make a header that announces none
abbrev Bodiless : Sess → List ℕ → Type 0
Bodiless s xs = (s.link.phase ≡ Limits.WAITING → ⊥) → body_len (header_in (step_all grow s xs).link.message) ≡ 0

-- it waits only for its header, byte by byte
heading_on : (s : Sess) (x : ℕ) (xs : List ℕ) (m : Message) → s.link.message ≡ m → Heading m → Waits (grow s x) → Bodiless (grow s x) xs
    → Heading (grow s x).link.message × (suc (room (grow s x).link.message) ≡ room m)
heading_on s x xs (headed h body ds) e f w d = absurd f
heading_on s x xs (partly bytes) e f w d =
    let g = grow_is s x e in
    let heading : Waits (holding s (grown_by (partly bytes) x)) → Bodiless (holding s (grown_by (partly bytes) x)) xs → Heading (grown_by (partly bytes) x) =
    by_test (λ m. Waits (holding s m) → Bodiless (holding s m) xs → Heading m) (λ l _ _. ltb-true _ _ l)
    (λ _ w d. whole (header_of (bytes ++ (x ∷ []))) w d) in
    rw g (heading (rw g at w) (rw g at d), ap suc (grown-room bytes x))
  where
    whole : (h : Header) → Waits (holding s (headed h 0 [])) → Bodiless (holding s (headed h 0 [])) xs → ⊥
    whole h w d =
        let t = holding s (headed h 0 []) in
        let z = ap (λ (s : Sess). body_len (header_in s.link.message)) (grow_body h 0 [] xs t refl) in
        omega (arith, w.message w.request, z, d w.request)

room-some : (m : Message) → Heading m → 0 < room m
room-some (partly bytes) f = omega arith
room-some (headed h body ds) f = absurd f

bodiless_on : (s : Sess) (x : ℕ) (xs : List ℕ) → Bodiless s (x ∷ xs) → Bodiless (grow s x) xs
unfolding grow
bodiless_on s x xs d = d

-- its feeds end with the header
front_consumed : (time : ℕ) (xs : List ℕ) (b : Buffers) (s : Sess) → Heading s.link.message
    → Bodiless s (take (feed_bytes s b xs time).consumed xs) → (feed_bytes s b xs time).consumed ≤ room s.link.message
front_consumed time xs b s =
    Cutting.by_feed grow put (judge time) after write_reply Event.hungry is_hungry
    (λ s b xs r. Heading s.link.message → Bodiless s (take r.consumed xs) → r.consumed ≤ room s.link.message)
    (λ s b h d. omega arith)
    (λ s b x xs _ h d. room-some s.link.message h)
    (λ s b x xs r q f h d.
    let g = bodiless_on s x (take r.consumed xs) d in
    let w : Waits (grow s x) = rw ((lawful time).silent (grow s x) q) at (judged time (grow s x)) in
    let n = heading_on s x (take r.consumed xs) s.link.message refl h w g in
    omega (arith, n.1, f n.0 g)) xs b s

done_is : {e e' : Event} → done e ≡ done e' → e ≡ e'
done_is h = cc

module _ (s : Sess) (b : Buffers) (piece : List ℕ) (time : ℕ) where
  abbrev fed : Feeding
  fed = done_feed (feed_bytes s b piece time)

  -- what is said was judged when the bytes consumed were in
  fed_judged : (e : Event) → fed.event ≡ done e → is_hungry e ≡ false → Judged (taken s piece fed) e
  fed_judged e h q =
      rw (Cutting.fed_judged grow put (judge time) after write_reply Event.hungry is_hungry (lawful time) piece b s (ap is_hungry (done_is h) ∙ q) ∙ done_is h)
      at (judged time (taken s piece fed))

  fed-buffers : fed.buffers ≡ lent (sets b.work (place s.link.message) (body_placed s piece fed)) (over (replied s piece fed) b.reply)
  unfolding write_reply
  fed-buffers =
      ap (λ (r : Fed Sess Event Buffers). r.buffers) (Cutting.fed_is grow put (judge time) after write_reply Event.hungry is_hungry (lawful time) piece b s)
      ∙ rw (put-all (take fed.consumed piece) b s)

  -- an event without a reply
  fed_mute : (e : Event) → fed.event ≡ done e → reply_to (taken s piece fed) e ≡ [] → fed.buffers.reply ≡ b.reply
  fed_mute e h n = rw (fed-buffers, done_is h, n)

  -- no body
  fed_bare : body_placed s piece fed ≡ [] → fed.buffers.work ≡ b.work
  fed_bare h = rw (fed-buffers, h)

  fed_front : InFront (taken s piece fed) → fed.buffers.work ≡ b.work
  fed_front f = fed_bare (front_none (take fed.consumed piece) s f)

  fed-heading : Heading s.link.message → Bodiless s (take fed.consumed piece) → fed.buffers.work ≡ b.work
  fed-heading h d =
      fed_bare (drop_of_length-le (take fed.consumed piece) {i = room s.link.message}
      (simp length-take (omega (arith, front_consumed time piece b s h d))))

  leaving_bytes : Leaving s b piece fed
  unfolding reply_to
  leaving_bytes =
      record {
        refuses = λ n h. cc;
        broken = λ f ts h. λ i. lent (fed_front (fed_judged (Event.break f ts) h refl) i) (fed_mute (Event.break f ts) h refl i);
        waits = λ h. fed_mute Event.hungry h refl;
        accepts = λ u h. fed_mute (Event.submit u) h refl;
        reply = ap (λ (b : Buffers). b.reply) fed-buffers;
        work = ap (λ (b : Buffers). b.work) fed-buffers;
        lists = λ h. fed_front (fed_judged Event.list h refl);
        requests = λ w h. fed-heading h (λ n. absurd (n w));
        unlinks = λ q st t h. fed_front (fed_judged (Event.unlink q st t) h refl);
        bodiless = λ h d. fed-heading h (λ _. d);
      }

  leaving : Leaving s b piece (feed_of s b piece time)
  unfolding feed_of
  leaving =
      by_first (Leaving s b piece) (first (Acts.feed_tests_of s b))
      (λ n _. record {
        refuses = λ m h i. record { event = h i; consumed = 0; buffers = b; next = s };
        broken = λ _ _ _. refl;
        waits = λ _. refl;
        accepts = λ _ _. refl;
        reply = refl;
        work = rw drop-nil;
        lists = λ _. refl;
        requests = λ _ _. refl;
        unlinks = λ _ _ _ _. refl;
        bodiless = λ _ _. refl;
      })
      (λ _. leaving_bytes)

pub untouched : Untouched
untouched = leaving

-- what such buffers keep: the rest of the reply buffer, and the work buffer before and behind the bytes placed
pub over_past : (bytes buffer : List ℕ) → drop (length bytes) (over bytes buffer) ≡ drop (length bytes) buffer
over_past bytes buffer = drop_at bytes (drop (length bytes) buffer) (length bytes) refl

pub sets_before : (bytes : List ℕ) (at n : ℕ) (buffer : List ℕ) → n ≤ at → take n (sets buffer at bytes) ≡ take n buffer
sets_before [] at n buffer h = refl
sets_before (x ∷ bytes) at n buffer h = sets_before bytes (suc at) n (set buffer at x) (omega arith) ∙ take-set-le n buffer at x h

pub sets_past : (bytes : List ℕ) (at n : ℕ) (buffer : List ℕ) → at + length bytes ≤ n → drop n (sets buffer at bytes) ≡ drop n buffer
sets_past [] at n buffer h = refl
sets_past (x ∷ bytes) at n buffer h = sets_past bytes (suc at) n (set buffer at x) (omega arith) ∙ drop-set-lt n buffer at x (omega arith)

-- ## The work buffer is only written

-- a feed without it
abbrev feed_reply : Sess → List ℕ → List ℕ → ℕ → Fed Sess Event (List ℕ)
feed_reply s reply piece time =
    feed grow (λ s x reply. reply) (judge time) after (λ s e reply. over (reply_to s e) reply) Event.hungry is_hungry s reply piece

bytes-work-free : (s : Sess) (b : Buffers) (piece : List ℕ) (time : ℕ)
    → Cutting.of_part (λ b. b.reply) (feed_bytes s b piece time) ≡ feed_reply s b.reply piece time
unfolding put write_reply
bytes-work-free s b piece time =
    Cutting.fed-part grow (judge time) after Event.hungry is_hungry (λ b. b.reply) put write_reply
    (λ s x reply. reply) (λ s e reply. over (reply_to s e) reply) (λ _ _ _. refl) (λ _ _ _. refl) piece b s

pub work-free-bytes : (s : Sess) (v w reply piece : List ℕ) (time : ℕ)
    → but_work (done_feed (feed_bytes s (lent v reply) piece time)) ≡ but_work (done_feed (feed_bytes s (lent w reply) piece time))
work-free-bytes s v w reply piece time =
    ap (λ (r : Fed Sess Event (List ℕ)). record { event = done r.event; consumed = r.consumed; buffers = r.buffers; next = r.next })
    (bytes-work-free s (lent v reply) piece time ∙ sym (bytes-work-free s (lent w reply) piece time))

fed-work-free : (s : Sess) (v w reply piece : List ℕ) (time : ℕ) → length v ≡ length w
    → but_work (feed_of s (lent v reply) piece time) ≡ but_work (feed_of s (lent w reply) piece time)
unfolding feed_of decide
fed-work-free s v w reply piece time h = rw h (at (first (Acts.feed_tests_of s (lent w reply))))
  where
    at : (o : Option ℕ)
        → but_work (decide o (Acts.refused_feed s (lent v reply)) (done_feed (feed_bytes s (lent v reply) piece time)))
        ≡ but_work (decide o (Acts.refused_feed s (lent w reply)) (done_feed (feed_bytes s (lent w reply) piece time)))
    at none = work-free-bytes s v w reply piece time
    at (some n) = refl

pub work-free : WorkFree
work-free s v w reply piece time h =
    let r = feed_of s (lent v reply) piece time in
    let q = feed_of s (lent w reply) piece time in
    let e : but_work r ≡ but_work q = fed-work-free s v w reply piece time h in
    let m = s.link.message in
    record {
      answer = e;
      bytes = body_placed s piece q;
      first = (untouched s (lent v reply) piece time).work
          ∙ ap (λ (r : Fed Sess (Outcome Event) (List ℕ)). sets v (place m) (drop (room m) (take r.consumed piece))) e;
      second = (untouched s (lent w reply) piece time).work;
    }

-- ## The other acts

behind : (bytes : List ℕ) (n : ℕ) → length bytes ≡ n → (buffer : List ℕ) → drop n (over bytes buffer) ≡ drop n buffer
behind bytes n e buffer = subst (λ (k : ℕ). drop k (over bytes buffer) ≡ drop k buffer) e (over_past bytes buffer)

pub keeps : Keeps
unfolding complete_of close_of
keeps s c =
    record {
      complete = by_first (λ (r : Complete). (n : ℕ) → r.answer ≡ refused n → r ≡ Acts.refused_completion s c n) (first (Acts.completion_tests_of s c))
          (λ n _ m h. cc) (λ _ m h. cc);
      header =
          let n = Codes.HEADER-LEN + length (Acts.results_in c.kind) * Codes.DESCRIPTOR-LEN in
          by_first (λ (r : Complete). drop n r.header ≡ drop n c.header) (first (Acts.completion_tests_of s c))
          (λ _ _. refl) (λ _. behind (submit_reply _ _ (Acts.results_in c.kind)) n (reply-length _ _ (Acts.results_in c.kind)) c.header);
      close = by_test (λ (r : Close). (n : ℕ) → r.answer ≡ refused n → r.next ≡ s) (λ _ _ _. refl) (λ _ n h. cc);
    }
