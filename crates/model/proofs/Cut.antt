-- A session may be fed in any cuts.
use Prim.Native.Nat.{ℕ}
use native.Mathlib.Omega.{arith}
use mathlib.Core.Path.{◌≡◌, refl, sym, ap, subst, ◌∙◌}
use mathlib.Core.List.{List, [], ◌++◌, map}
use mathlib.Core.Bool.{Bool, true, false}
use borrow.Author.Tests.{le-ltb}
use lib.ListN.{length, take, length-append, length-drop, length-set}
use Rattle.limits.specs.Limits
use Rattle.ground.specs.Tests.{decide}
use Rattle.model.specs.Machine.{Fed, Ran, feed, idle, before, drain_all}
use Rattle.model.specs.State.{Message, partly, headed, Sess, closed}
use Rattle.model.specs.Answers.{Outcome, refused, done, Event, is_hungry, says_nothing}
use Rattle.model.specs.Judging.{grow, judge}
use Rattle.model.specs.Acts.{Buffers, data_put, put, after, reply_to, write_reply, feed_bytes, feed_of, done_feed}
use Rattle.model.specs.Cut.{Enough, Consumes, Timed, all_bytes, times_of, drained_of, Cutting, Draining, Answer, answer, answers_of, CuttingAnswers}
use Rattle.model.proofs.Cutting
use Rattle.model.proofs.Times.{even}

is-hungry : (e : Event) → is_hungry e ≡ true → e ≡ Event.hungry
is-hungry Event.hungry h = refl
is-hungry Event.list h = cc
is-hungry (Event.import st) h = cc
is-hungry (Event.submit u) h = cc
is-hungry (Event.answer q st) h = cc
is-hungry (Event.unlink q st t) h = cc
is-hungry (Event.break f ts) h = cc

pub lawful : (time : ℕ) → Cutting.Lawful (judge time) after write_reply Event.hungry is_hungry
unfolding write_reply reply_to
lawful time = record { silent = λ s. is-hungry (judge time s); hungers = refl; stays = λ s. refl; mute = λ s b. refl }

-- ## Feeding keeps the buffers large enough: nothing that is written takes any bytes off

put-length : (m : Message) (x : ℕ) (work : List ℕ) → length (data_put m x work) ≡ length work
put-length (partly bytes) x work = refl
put-length (headed h body ds) x work = length-set work body x

put_enough : (s : Sess) (x : ℕ) (b : Buffers) → Enough b → Enough (put s x b)
unfolding put
put_enough s x b h = record { work = rw (put-length s.link.message x b.work) h.work; reply = h.reply }

reply_enough : (s : Sess) (e : Event) (b : Buffers) → Enough b → Enough (write_reply s e b)
unfolding write_reply
reply_enough s e b h = record { work = h.work; reply = simp (length-append, length-drop) (omega arith) }

fed_enough : (s : Sess) (b : Buffers) (piece : List ℕ) (time : ℕ) → Enough b → Enough (feed_bytes s b piece time).buffers
fed_enough s b piece time =
    Cutting.by_feed grow put (judge time) after write_reply Event.hungry is_hungry (λ s b xs r. Enough b → Enough r.buffers) (λ s b h. h)
    (λ s b x xs _ h. reply_enough (grow s x) (judge time (grow s x)) (put s x b) (put_enough s x b h))
    (λ s b x xs r _ f h. f (put_enough s x b h)) piece b s

-- so that a feed of a session that isn't closed is never refused
pub fed_open : (s : Sess) (b : Buffers) (piece : List ℕ) (time : ℕ) → closed s ≡ false → Enough b
    → feed_of s b piece time ≡ done_feed (feed_bytes s b piece time)
unfolding feed_of decide
fed_open s b piece time o h =
    rw (o, le-ltb (length b.work) Limits.WORK-LEN h.work, le-ltb (length b.reply) Limits.REPLY-LEN h.reply)

pub consumes : Consumes
unfolding feed
consumes s b piece time o h =
    let e = fed_open s b piece time o h in
    record {
      most = rw e (Cutting.consumed-most grow put (judge time) after write_reply Event.hungry is_hungry piece b s);
      all = rw e (λ q. Cutting.consumed-all grow put (judge time) after write_reply Event.hungry is_hungry (lawful time) piece b s (ap says_nothing q));
      some = rw e (Cutting.consumed-some grow put (judge time) after write_reply Event.hungry is_hungry piece b s);
      none = λ n. e ∙ rw n;
      within = λ rest. rw (e, fed_open s b (piece ++ rest) time o h)
          (λ q. ap done_feed (Cutting.said-within grow put (judge time) after write_reply Event.hungry is_hungry (lawful time) piece rest b s q));
    }

-- ## Cutting

closed_on : (s : Sess) (x : ℕ) → closed (grow s x) ≡ closed s
unfolding grow
closed_on s x = refl

-- what an outcome does; none is a refusal
abbrev after_outcome : Sess → Outcome Event → Sess
after_outcome s (refused n) = s
after_outcome s (done e) = after s e

abbrev write_outcome : Sess → Outcome Event → Buffers → Buffers
write_outcome s (refused n) b = b
write_outcome s (done e) b = write_reply s e b

-- A caller keeps each outcome under a name, which tells it.
module _ {A : Type 0} (outcome : A → Outcome Event) (name : Sess → Event → A) (hungry : A)
    (names : (s : Sess) (e : Event) → outcome (name s e) ≡ done e)
    (hungers : (s : Sess) → name s Event.hungry ≡ hungry) (quiet-hungry : says_nothing (outcome hungry) ≡ true)
    (feeder : Sess → Buffers → List ℕ → ℕ → Fed Sess A Buffers)
    (feeds : (s : Sess) (b : Buffers) (piece : List ℕ) (time : ℕ) → closed s ≡ false → Enough b
    → feeder s b piece time ≡ Cutting.renamed grow name s piece (feed_bytes s b piece time)) where
  abbrev judge_n : ℕ → Sess → A
  judge_n time s = name s (judge time s)

  abbrev after_n : Sess → A → Sess
  after_n s a = after_outcome s (outcome a)

  abbrev reply_n : Sess → A → Buffers → Buffers
  reply_n s a b = write_outcome s (outcome a) b

  abbrev quiet_n : A → Bool
  quiet_n a = says_nothing (outcome a)

  abbrev feed_n : Sess → Buffers → List ℕ → ℕ → Fed Sess A Buffers
  feed_n s b piece time = feed grow put (judge_n time) after_n reply_n hungry quiet_n s b piece

  lawful_n : (time : ℕ) → Cutting.Lawful (judge_n time) after_n reply_n hungry quiet_n
  lawful_n time =
      Cutting.lawful_renamed grow put (judge time) after write_reply Event.hungry is_hungry name after_n reply_n hungry quiet_n
      (λ s e. rw (names s e)) (λ s e b. rw (names s e)) hungers (λ s e. rw (names s e)) (lawful time) quiet-hungry

  even_n : (t u : ℕ) (s : Sess) → quiet_n (judge_n t s) ≡ quiet_n (judge_n u s)
  even_n t u s = rw (names s (judge t s), names s (judge u s)) (even t u s)

  fed_n : (s : Sess) (b : Buffers) (piece : List ℕ) (time : ℕ) → Cutting.renamed grow name s piece (feed_bytes s b piece time) ≡ feed_n s b piece time
  fed_n s b piece time =
      Cutting.fed_renamed grow put (judge time) after write_reply Event.hungry is_hungry name after_n reply_n hungry quiet_n
      (λ s e. rw (names s e)) (λ s e b. rw (names s e)) hungers (λ s e. rw (names s e)) piece b s

  drain_n : (s : Sess) (b : Buffers) (ps : Timed) → Enough b → drain_all feeder quiet_n closed s b ps ≡ drain_all feed_n quiet_n closed s b ps
  drain_n s b ps h =
      Cutting.drains_same quiet_n closed feeder feed_n Enough
      (λ s b piece time o e. rw (← (fed_n s b piece time)) (fed_enough s b piece time e))
      (λ s b piece time o e. feeds s b piece time o e ∙ fed_n s b piece time) ps b s h

  cut_n : (s : Sess) (b : Buffers) (ps qs : Timed) → Enough b → all_bytes ps ≡ all_bytes qs
      → times_of (drain_all feeder quiet_n closed s b ps) ≡ times_of (drain_all feeder quiet_n closed s b qs)
      → drain_all feeder quiet_n closed s b ps ≡ drain_all feeder quiet_n closed s b qs
  cut_n s b ps qs h e =
      rw (drain_n s b ps h, drain_n s b qs h)
      (Cutting.cut grow put judge_n after_n reply_n hungry quiet_n lawful_n even_n closed closed_on ps qs b s e)

  consumed_n : (s : Sess) (b : Buffers) (ps : Timed) → Enough b → closed (drain_all feeder quiet_n closed s b ps).next ≡ false
      → (drain_all feeder quiet_n closed s b ps).consumed ≡ length (all_bytes ps)
  consumed_n s b ps h =
      rw (drain_n s b ps h) (Cutting.all-consumed grow put judge_n after_n reply_n hungry quiet_n lawful_n even_n closed closed_on ps b s)

  -- byte by byte, each with its time
  abbrev run_n : Sess → Buffers → List (ℕ × ℕ) → Ran Sess A ℕ Buffers
  run_n s b ys = Cutting.run grow put judge_n after_n reply_n hungry quiet_n lawful_n even_n closed closed_on s b ys

  fed_run_n : (s : Sess) (b : Buffers) (piece : List ℕ) (time : ℕ) (ys : List (ℕ × ℕ)) → closed s ≡ false → Enough b
      → let r = feeder s b piece time in
      run_n s b (map (λ x. (x, time)) (take r.consumed piece) ++ ys) ≡ before feeder quiet_n closed time r (run_n r.next r.buffers ys)
  fed_run_n s b piece time ys o e =
      subst (λ (r : Fed Sess A Buffers).
      run_n s b (map (λ x. (x, time)) (take r.consumed piece) ++ ys) ≡ before feeder quiet_n closed time r (run_n r.next r.buffers ys))
      (sym (feeds s b piece time o e ∙ fed_n s b piece time))
      (Cutting.fed_run grow put judge_n after_n reply_n hungry quiet_n lawful_n even_n closed closed_on time piece b s ys o)

  shut_run_n : (s : Sess) (b : Buffers) (ys : List (ℕ × ℕ)) → closed s ≡ true → run_n s b ys ≡ idle feeder quiet_n closed s b
  shut_run_n s b ys h = Cutting.run_shut grow put judge_n after_n reply_n hungry quiet_n lawful_n even_n closed closed_on s b ys h

  same_run_n : (s : Sess) (b : Buffers) (xs ys : List (ℕ × ℕ)) → map (λ (y : ℕ × ℕ). y.0) xs ≡ map (λ (y : ℕ × ℕ). y.0) ys
      → times_of (run_n s b xs) ≡ times_of (run_n s b ys) → run_n s b xs ≡ run_n s b ys
  same_run_n s b xs ys = Cutting.same_run grow put judge_n after_n reply_n hungry quiet_n lawful_n even_n closed closed_on xs ys b s

pub cutting : Cutting
unfolding drained_of
cutting = cut_n (λ o. o) (λ s e. done e) (done Event.hungry) (λ s e. refl) (λ s. refl) refl feed_of fed_open

pub draining : Draining
unfolding drained_of
draining = consumed_n (λ o. o) (λ s e. done e) (done Event.hungry) (λ s e. refl) (λ s. refl) refl feed_of fed_open

-- ## With the replies

abbrev outcome_in : Answer → Outcome Event
outcome_in a = a.event

abbrev answered : Sess → Event → Answer
answered s e = record { event = done e; reply = reply_to s e; length = length (reply_to s e) }

abbrev quiet_answer : Answer
quiet_answer = record { event = done Event.hungry; reply = []; length = 0 }

abbrev pub answering : Sess → Buffers → List ℕ → ℕ → Fed Sess Answer Buffers
answering s b piece time = answer s piece (feed_of s b piece time)

abbrev pub quietly : Answer → Bool
quietly a = says_nothing a.event

answer-hungry : (s : Sess) → answered s Event.hungry ≡ quiet_answer
unfolding reply_to
answer-hungry s = refl

answer_open : (s : Sess) (b : Buffers) (piece : List ℕ) (time : ℕ) → closed s ≡ false → Enough b
    → answering s b piece time ≡ Cutting.renamed grow answered s piece (feed_bytes s b piece time)
answer_open s b piece time o h = ap (answer s piece) (fed_open s b piece time o h)

pub cutting_answers : CuttingAnswers
unfolding answers_of
cutting_answers = cut_n outcome_in answered quiet_answer (λ s e. refl) answer-hungry refl answering answer_open

-- byte by byte, each with its time
pub answers_run : Sess → Buffers → List (ℕ × ℕ) → Ran Sess Answer ℕ Buffers
answers_run s b ys = run_n outcome_in answered quiet_answer (λ s e. refl) answer-hungry refl answering answer_open s b ys

pub none_run : (s : Sess) (b : Buffers) → answers_run s b [] ≡ idle answering quietly closed s b
unfolding answers_run Cutting.run
none_run s b = refl

-- a feed is the first answer of the bytes that it consumes, whatever comes behind them
pub answer_run : (s : Sess) (b : Buffers) (piece : List ℕ) (time : ℕ) (ys : List (ℕ × ℕ)) → closed s ≡ false → Enough b
    → let r = answering s b piece time in
    answers_run s b (map (λ x. (x, time)) (take r.consumed piece) ++ ys) ≡ before answering quietly closed time r (answers_run r.next r.buffers ys)
unfolding answers_run
answer_run = fed_run_n outcome_in answered quiet_answer (λ s e. refl) answer-hungry refl answering answer_open

pub shut_run : (s : Sess) (b : Buffers) (ys : List (ℕ × ℕ)) → closed s ≡ true → answers_run s b ys ≡ idle answering quietly closed s b
unfolding answers_run
shut_run = shut_run_n outcome_in answered quiet_answer (λ s e. refl) answer-hungry refl answering answer_open

pub same_answers : (s : Sess) (b : Buffers) (xs ys : List (ℕ × ℕ)) → map (λ (y : ℕ × ℕ). y.0) xs ≡ map (λ (y : ℕ × ℕ). y.0) ys
    → times_of (answers_run s b xs) ≡ times_of (answers_run s b ys) → answers_run s b xs ≡ answers_run s b ys
unfolding answers_run
same_answers = same_run_n outcome_in answered quiet_answer (λ s e. refl) answer-hungry refl answering answer_open
