-- A time reaches no reply: what is done with every time 0 is what is done with any, but for the arrivals.
use Prim.Native.Nat.{ℕ, zero, suc, ◌+◌}
use mathlib.Core.Path.{◌≡◌, refl, sym, ap, ◌∙◌}
use mathlib.Core.Bool.{Bool, true, false, cond}
use mathlib.Core.List.{List, [], ◌∷◌, ◌++◌, map, map-append}
use mathlib.Core.Option.{Option, none, some}
use lib.Dec.{eqb, ltb}
use lib.ListN.{length, take, drop, get_or, length-map}
use Rattle.wire.specs.Codes
use Rattle.messages.specs.Messages.{request_of, body_len, unlink_seqnum}
use Rattle.messages.specs.declared.message.Header.{Header}
use Rattle.std.specs.Prelude.{Option as Maybe, Some, None}
use Rattle.pending.specs.Pending.{ticket_of, seqnum_of, no_urb, tickets, find_by, found, Place, At, Nothing as Nowhere, place_from, place_by, urb_at, without_at}
use Rattle.pending.specs.declared.urb.Urb.{Urb}
use Rattle.limits.specs.Limits
use Rattle.ground.specs.Tests.{Test, first, decide, pick}
use Rattle.verdicts.specs.Verdicts
use Rattle.verdicts.specs.declared.verdict.Fault.{Fault}
use Rattle.model.specs.State.{Message, partly, headed, header_in, Sess, closed, with_pend}
use Rattle.model.specs.Answers.{Outcome, refused, done, Event, hungry, list, import, submit, answer, unlink, break, is_hungry}
use Rattle.model.specs.Judging.{grow, urb_of, breaks, submit_tests_of, submitted, submitting, unlinks, header_tests_of, whole_header, message, requested}
use Rattle.model.specs.Judging.{looked_up}
use Rattle.model.specs.Judging.{imports, request, judge}
use Rattle.model.specs.Acts.{accepts, between, shuts, drops, attaches, device_of, after, reply_to, Buffers, put, write_reply, feed_bytes, feed_tests_of}
use Rattle.model.specs.Acts.{refused_feed, done_feed, feed_of, Completion, named_by, the_transfer, the_packets, named_place, completion_tests_of, Complete}
use Rattle.model.specs.Acts.{refused_completion}
use Rattle.model.specs.Acts.{complete_of, Close, close_of, open_of}
use Rattle.model.specs.Cut.{step_all, outcome_reply, written, Feeding}
use Rattle.model.specs.Book.{Call, feed, complete, close}
use Rattle.model.specs.Claims.{next_of}
use Rattle.model.specs.Corollaries.{session_after, session_from}
use Rattle.model.specs.Times.{untimed_urb, untimed, untimed_event, untimed_outcome, untimed_call, TimesUnseen}
use Rattle.model.proofs.Cutting

-- ## The pending list

abbrev untimed_found : Option Urb → Option Urb
untimed_found none = none
untimed_found (some u) = some (untimed_urb u)

-- a key that no time changes
module _ (key : Urb → ℕ) (same : (u : Urb) → key (untimed_urb u) ≡ key u) (k : ℕ) where
  find_untimed : (us : List Urb) → find_by key k (map untimed_urb us) ≡ untimed_found (find_by key k us)
  find_untimed [] = refl
  find_untimed (u ∷ us) = rw (same u, find_untimed us) (at (eqb (key u) k))
    where
      at : (c : Bool) → cond c (some (untimed_urb u)) (untimed_found (find_by key k us))
          ≡ untimed_found (cond c (some u) (find_by key k us))
      at true = refl
      at false = refl

  place_from_untimed : (i : ℕ) (us : List Urb) → place_from i key k (map untimed_urb us) ≡ place_from i key k us
  place_from_untimed i [] = refl
  place_from_untimed i (u ∷ us) = rw (same u, place_from_untimed (suc i) us)

get_untimed : (us : List Urb) (i : ℕ) → get_or (map untimed_urb us) i no_urb ≡ untimed_urb (get_or us i no_urb)
get_untimed [] i = refl
get_untimed (u ∷ us) zero = refl
get_untimed (u ∷ us) (suc i) = get_untimed us i

take-untimed : (i : ℕ) (us : List Urb) → take i (map untimed_urb us) ≡ map untimed_urb (take i us)
take-untimed zero us = refl
take-untimed (suc i) [] = refl
take-untimed (suc i) (u ∷ us) = ap (λ (vs : List Urb). untimed_urb u ∷ vs) (take-untimed i us)

drop-untimed : (i : ℕ) (us : List Urb) → drop i (map untimed_urb us) ≡ map untimed_urb (drop i us)
drop-untimed zero us = refl
drop-untimed (suc i) [] = refl
drop-untimed (suc i) (u ∷ us) = drop-untimed i us

-- the one at a place, and all but that one
at_untimed : (p : Place) (us : List Urb) → urb_at p (map untimed_urb us) ≡ untimed_found (urb_at p us)
at_untimed (At i) us = ap some (get_untimed us i)
at_untimed Nowhere us = refl

without-untimed : (p : Place) (us : List Urb) → without_at p (map untimed_urb us) ≡ map untimed_urb (without_at p us)
without-untimed (At i) us =
    (λ j. take-untimed i us j ++ drop-untimed (suc i) us j) ∙ sym (map-append untimed_urb (take i us) (drop (suc i) us))
without-untimed Nowhere us = refl

found-untimed : (o : Option Urb) → found (untimed_found o) ≡ found o
found-untimed none = refl
found-untimed (some u) = refl

transfer_untimed : (o : Option Urb) → the_transfer (untimed_found o) ≡ the_transfer o
transfer_untimed none = refl
transfer_untimed (some u) = refl

packets_untimed : (o : Option Urb) → the_packets (untimed_found o) ≡ the_packets o
packets_untimed none = refl
packets_untimed (some u) = refl

named_untimed : (c : Completion) (o : Option Urb) → named_by c (untimed_found o) ≡ named_by c o
named_untimed c none = refl
named_untimed c (some u) = refl

tickets-untimed : (us : List Urb) → tickets (map untimed_urb us) ≡ tickets us
tickets-untimed [] = refl
tickets-untimed (u ∷ us) = ap (λ (ts : List ℕ). ticket_of u ∷ ts) (tickets-untimed us)

-- ## What is said

module _ (time : ℕ) (s : Sess) where
  submitted-untimed : (h : Header) (ds : List ℕ) → untimed_event (submitted time s h ds) ≡ submitted 0 (untimed s) h ds
  unfolding submitted decide
  submitted-untimed h ds = rw (length-map s.pend untimed_urb) (at (first (submit_tests_of h ds s)))
    where
      at : (o : Option ℕ) → let n = suc s.link.counts.accepted in
          untimed_event (decide o (answer h.transfer.seqnum) (submit (urb_of n time h ds)))
          ≡ decide o (answer h.transfer.seqnum) (submit (urb_of n 0 h ds))
      at none = refl
      at (some st) = refl

  submitting-untimed : (h : Header) (body : ℕ) (ds : List ℕ) → untimed_event (submitting time s h body ds) ≡ submitting 0 (untimed s) h body ds
  unfolding submitting pick
  submitting-untimed h body ds = at (ltb body (body_len h))
    where
      at : (c : Bool) → untimed_event (pick c hungry (submitted time s h ds)) ≡ pick c hungry (submitted 0 (untimed s) h ds)
      at true = refl
      at false = submitted-untimed h ds

  unlinks-untimed : (q : ℕ) (o : Option Urb) → untimed_event (unlinks q o) ≡ unlinks q (untimed_found o)
  unlinks-untimed q none = refl
  unlinks-untimed q (some u) = refl

  breaks-untimed : (f : Fault) → untimed_event (breaks s f) ≡ breaks (untimed s) f
  breaks-untimed f = ap (break f) (sym (tickets-untimed s.pend))

  tests_untimed : (h : Header) → header_tests_of h s.link.devid (map untimed_urb s.pend) ≡ header_tests_of h s.link.devid s.pend
  tests_untimed h =
      let q = h.transfer.seqnum in
      ap (Verdicts.header_tests h s.link.devid) (ap found (find_untimed seqnum_of (λ u. refl) q s.pend) ∙ found-untimed (find_by seqnum_of q s.pend))

  -- by the tests and what is looked up
  abbrev header_by : ℕ → Sess → Header → List (Test Fault) → Option Urb → Event
  header_by t z h tests u =
      decide (first tests) (breaks z) (pick (eqb h.command Codes.CMD-SUBMIT) (submitting t z h 0 []) (unlinks h.transfer.seqnum u))

  header-untimed : (h : Header) → untimed_event (whole_header time s h) ≡ whole_header 0 (untimed s) h
  unfolding whole_header decide pick
  header-untimed h =
      at (first (header_tests_of h s.link.devid s.pend)) (eqb h.command Codes.CMD-SUBMIT)
      ∙ sym (λ i. header_by 0 (untimed s) h (tests_untimed h i) (find_untimed seqnum_of (λ u. refl) (unlink_seqnum h) s.pend i))
    where
      at : (o : Option Fault) (c : Bool) → let u = find_by seqnum_of (unlink_seqnum h) s.pend in
          untimed_event (decide o (breaks s) (pick c (submitting time s h 0 []) (unlinks h.transfer.seqnum u)))
          ≡ decide o (breaks (untimed s)) (pick c (submitting 0 (untimed s) h 0 []) (unlinks h.transfer.seqnum (untimed_found u)))
      at (some f) c = breaks-untimed f
      at none true = submitting-untimed h 0 []
      at none false = unlinks-untimed h.transfer.seqnum (find_by seqnum_of (unlink_seqnum h) s.pend)

  message-untimed : (m : Message) → untimed_event (message time s m) ≡ message 0 (untimed s) m
  unfolding message pick
  message-untimed (partly bytes) = refl
  message-untimed (headed h body ds) = at (eqb body 0)
    where
      at : (c : Bool) → untimed_event (pick c (whole_header time s h) (submitting time s h body ds))
          ≡ pick c (whole_header 0 (untimed s) h) (submitting 0 (untimed s) h body ds)
      at true = header-untimed h
      at false = submitting-untimed h body ds

  requested-untimed : (m : List ℕ) → untimed_event (requested s m) ≡ requested (untimed s) m
  unfolding requested decide pick
  requested-untimed m = at (first (Verdicts.request_tests (request_of m))) (eqb (request_of m).code Codes.OP-REQ-DEVLIST)
    where
      at : (o : Option Fault) (c : Bool)
          → untimed_event (decide o (breaks s) (pick c list hungry)) ≡ decide o (breaks (untimed s)) (pick c list hungry)
      at (some f) c = breaks-untimed f
      at none true = refl
      at none false = refl

  imports-untimed : (f : Maybe ℕ) → untimed_event (imports f) ≡ imports f
  imports-untimed (Some i) = refl
  imports-untimed None = refl

  request-untimed : (m : Message) → untimed_event (request s m) ≡ request (untimed s) m
  unfolding request looked_up pick
  request-untimed (headed h body ds) = imports-untimed (looked_up s)
  request-untimed (partly m) =
      at (ltb (length m) Codes.OP-LEN) (eqb (length m) Codes.OP-LEN) (ltb (length m) (Codes.OP-LEN + Codes.BUSID-LEN))
    where
      at : (a b c : Bool)
          → untimed_event (pick a hungry (pick b (requested s m) (pick c hungry (imports (looked_up s)))))
          ≡ pick a hungry (pick b (requested (untimed s) m) (pick c hungry (imports (looked_up (untimed s)))))
      at true b c = refl
      at false true c = requested-untimed m
      at false false true = refl
      at false false false = imports-untimed (looked_up s)

  judge-untimed : untimed_event (judge time s) ≡ judge 0 (untimed s)
  unfolding judge pick
  judge-untimed = at (eqb s.link.phase Limits.WAITING)
    where
      at : (c : Bool) → let m = s.link.message in
          untimed_event (pick c (request s m) (message time s m)) ≡ pick c (request (untimed s) m) (message 0 (untimed s) m)
      at true = request-untimed s.link.message
      at false = message-untimed s.link.message

quiet_untimed : (e : Event) → is_hungry (untimed_event e) ≡ is_hungry e
quiet_untimed hungry = refl
quiet_untimed list = refl
quiet_untimed (import st) = refl
quiet_untimed (submit u) = refl
quiet_untimed (answer q st) = refl
quiet_untimed (unlink q st t) = refl
quiet_untimed (break f ts) = refl

-- whether something is said doesn't depend on the time
pub even : (t u : ℕ) (s : Sess) → is_hungry (judge t s) ≡ is_hungry (judge u s)
even t u s =
    sym (quiet_untimed (judge t s)) ∙ ap is_hungry (judge-untimed t s ∙ sym (judge-untimed u s)) ∙ quiet_untimed (judge u s)

-- ## What saying it does

pend-path : (s : Sess) {us vs : List Urb} → us ≡ vs → with_pend us s ≡ with_pend vs s
pend-path s p = λ i. with_pend (p i) s

after-untimed : (s : Sess) (e : Event) → untimed (after s e) ≡ after (untimed s) (untimed_event e)
unfolding looked_up pick
after-untimed s hungry = refl
after-untimed s list = refl
after-untimed s (import st) = at (eqb st 0)
  where
    at : (c : Bool) → let z = untimed s in
        untimed (pick c (between (attaches (device_of s.table (looked_up s)) s)) (between (shuts s)))
        ≡ pick c (between (attaches (device_of z.table (looked_up z)) z)) (between (shuts z))
    at true = refl
    at false = refl
after-untimed s (submit u) = pend-path (between (accepts u s)) (map-append untimed_urb s.pend (u ∷ []))
after-untimed s (answer q st) = refl
after-untimed s (unlink q st none) = refl
after-untimed s (unlink q st (some t)) =
    let k = unlink_seqnum (header_in s.link.message) in
    let e = place_from_untimed seqnum_of (λ u. refl) k 0 s.pend in
    pend-path (after s (unlink q st (some t)))
    (sym (ap (λ (p : Place). without_at p (map untimed_urb s.pend)) e ∙ without-untimed (place_by seqnum_of k s.pend) s.pend))
after-untimed s (break f ts) = rw (length-map s.pend untimed_urb)

reply-untimed : (s : Sess) (e : Event) → reply_to s e ≡ reply_to (untimed s) (untimed_event e)
unfolding reply_to looked_up
reply-untimed s hungry = refl
reply-untimed s list = refl
reply-untimed s (import st) = refl
reply-untimed s (submit u) = refl
reply-untimed s (answer q st) = refl
reply-untimed s (unlink q st t) = refl
reply-untimed s (break f ts) = refl

writes-untimed : (s : Sess) (e : Event) (b : Buffers) → write_reply s e b ≡ write_reply (untimed s) (untimed_event e) b
unfolding write_reply
writes-untimed s e b = rw (reply-untimed s e)

-- ## A feed

grow-untimed : (s : Sess) (x : ℕ) → untimed (grow s x) ≡ grow (untimed s) x
unfolding grow
grow-untimed s x = refl

put-untimed : (s : Sess) (x : ℕ) (b : Buffers) → put s x b ≡ put (untimed s) x b
unfolding put
put-untimed s x b = refl

abbrev untimed_fed : Feeding → Feeding
untimed_fed r = record { event = untimed_outcome r.event; consumed = r.consumed; buffers = r.buffers; next = untimed r.next }

module _ (s : Sess) (b : Buffers) (piece : List ℕ) (time : ℕ) where
  bytes-untimed : untimed_fed (done_feed (feed_bytes s b piece time)) ≡ done_feed (feed_bytes (untimed s) b piece 0)
  bytes-untimed =
      ap done_feed
      (Cutting.fed_image grow put after write_reply hungry is_hungry (judge time) (judge 0) untimed untimed_event grow-untimed put-untimed
      (judge-untimed time) after-untimed writes-untimed refl quiet_untimed piece b s)

  fed-untimed : untimed_fed (feed_of s b piece time) ≡ feed_of (untimed s) b piece 0
  unfolding feed_of decide
  fed-untimed = at (first (feed_tests_of s b))
    where
      at : (o : Option ℕ)
          → untimed_fed (decide o (refused_feed s b) (done_feed (feed_bytes s b piece time)))
          ≡ decide o (refused_feed (untimed s) b) (done_feed (feed_bytes (untimed s) b piece 0))
      at none = bytes-untimed
      at (some n) = refl

grows-untimed : (xs : List ℕ) (s : Sess) → untimed (step_all grow s xs) ≡ step_all grow (untimed s) xs
grows-untimed [] s = refl
grows-untimed (x ∷ xs) s = grows-untimed xs (grow s x) ∙ ap (λ (z : Sess). step_all grow z xs) (grow-untimed s x)

outcome_untimed : (s : Sess) (o : Outcome Event) → outcome_reply s o ≡ outcome_reply (untimed s) (untimed_outcome o)
outcome_untimed s (refused n) = refl
outcome_untimed s (done e) = reply-untimed s e

written-untimed : (s : Sess) (p : List ℕ) (r : Feeding) → written s p r ≡ written (untimed s) p (untimed_fed r)
written-untimed s p r =
    let xs = take r.consumed p in
    ap length (outcome_untimed (step_all grow s xs) r.event ∙ ap (λ (z : Sess). outcome_reply z (untimed_outcome r.event)) (grows-untimed xs s))

-- ## The other acts

abbrev untimed_complete : Complete → Complete
untimed_complete r = record { answer = r.answer; header = r.header; next = untimed r.next }

complete-untimed : (s : Sess) (c : Completion) → untimed_complete (complete_of s c) ≡ complete_of (untimed s) c
unfolding complete_of decide
complete-untimed s c =
    let p = named_place s c in
    rw (
      tickets-untimed s.pend,
      at_untimed p s.pend,
      named_untimed c (urb_at p s.pend),
      transfer_untimed (urb_at p s.pend),
      packets_untimed (urb_at p s.pend),
      without-untimed p s.pend,
    )
    (at (first (completion_tests_of s c)) _)
  where
    at : (n : Option ℕ) (good : Complete)
        → untimed_complete (decide n (refused_completion s c) good) ≡ decide n (refused_completion (untimed s) c) (untimed_complete good)
    at none good = refl
    at (some n) good = refl

abbrev untimed_close : Close → Close
untimed_close r = record { answer = r.answer; next = untimed r.next }

close-untimed : (s : Sess) → untimed_close (close_of s) ≡ close_of (untimed s)
unfolding close_of pick
close-untimed s = rw (tickets-untimed s.pend, length-map s.pend untimed_urb) (at (closed s))
  where
    at : (c : Bool)
        → let no : Close = record { answer = refused Limits.SESSION-CLOSED; next = s } in
        let yes : Close = record { answer = done (tickets s.pend); next = between (drops s) } in
        untimed_close (pick c no yes) ≡ pick c (untimed_close no) (untimed_close yes)
    at true = refl
    at false = refl

-- ## Every list of calls

next-untimed : (s : Sess) (c : Call) → untimed (next_of s c) ≡ next_of (untimed s) (untimed_call c)
next-untimed s (feed p lent time) = ap (λ (r : Feeding). r.next) (fed-untimed s lent p time)
next-untimed s (complete c) = ap (λ (r : Complete). r.next) (complete-untimed s c)
next-untimed s close = ap (λ (r : Close). r.next) (close-untimed s)

run_untimed : (cs : List Call) (s : Sess) → untimed (session_after s cs) ≡ session_after (untimed s) (map untimed_call cs)
run_untimed [] s = refl
run_untimed (c ∷ cs) s = run_untimed cs (next_of s c) ∙ ap (λ (z : Sess). session_after z (map untimed_call cs)) (next-untimed s c)

pub times_unseen : TimesUnseen
times_unseen t cs ds e =
    let o = (open_of t).next in
    let s = session_from t cs in
    let z = session_from t ds in
    let same : untimed s ≡ untimed z = run_untimed cs o ∙ ap (session_after (untimed o)) e ∙ sym (run_untimed ds o) in
    record {
      session = same;
      feeds =
          λ lent p time other.
          let r = feed_of s lent p time in
          let q = feed_of z lent p other in
          let k : untimed_fed r ≡ untimed_fed q =
          fed-untimed s lent p time ∙ ap (λ (x : Sess). feed_of x lent p 0) same ∙ sym (fed-untimed z lent p other) in (
            ap (λ (x : Feeding). x.event) k,
            ap (λ (x : Feeding). x.consumed) k,
            ap (λ (x : Feeding). x.buffers) k,
            written-untimed s p r ∙ (λ i. written (same i) p (k i)) ∙ sym (written-untimed z p q),
          );
      completes =
          λ c.
          let k = complete-untimed s c ∙ ap (λ (x : Sess). complete_of x c) same ∙ sym (complete-untimed z c) in
          (ap (λ (x : Complete). x.answer) k, ap (λ (x : Complete). x.header) k);
      closes = ap (λ (x : Close). x.answer) (close-untimed s ∙ ap close_of same ∙ sym (close-untimed z));
    }
