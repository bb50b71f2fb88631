-- The code's own feeds drain a stream as the definitions do.
use Prim.Native.Nat.{ℕ, ◌+◌}
use native.Mathlib.Omega.{arith}
use lib.Dec.{eqb}
use mathlib.Core.Path.{◌≡◌, refl, sym, ap, subst, ◌∙◌}
use mathlib.Core.Bool.{Bool, true, false, cond}
use mathlib.Core.List.{List, [], ◌∷◌, ◌++◌, map, map-append, append_assoc, flatten}
use mathlib.Core.Option.{none, some}
use lib.ListN.{take, drop, length-append, length-drop, take-append-drop}
use lib.Seq.{length-sets}
use Rattle.packets.specs.declared.packet.Packet.{Packet}
use Rattle.pending.specs.declared.list.Tickets.{Tickets}
use Rattle.model.specs.Machine
use Rattle.model.specs.Machine.{Note, Ran, before}
use Rattle.model.specs.State.{Sess, closed}
use Rattle.model.specs.Answers.{Outcome, refused, done, Event, says_nothing}
use Rattle.model.specs.Acts.{Buffers}
use Rattle.model.specs.Cut
use Rattle.model.specs.Cut.{Enough}
use Rattle.model.proofs.Cut.{answering, quietly, answers_run, none_run, answer_run, shut_run, same_answers}
use Rattle.model.proofs.Untouched.{untouched}
use Rattle.events.specs.Answers.{event_of, urb_beside, tickets_of, dropped_by}
use Rattle.events.specs.Plans.{Result}
use Rattle.events.specs.declared.answer.Event.{Event as Case}
use Rattle.events.specs.declared.answer.Event.TheVariants.{Hungry, List as Listed, Import, Submit, Answer as Answered, Unlink, Break, Refused}
use Rattle.std.specs.Prelude.{Some, None}
use Rattle.feeding.specs.Feeding.{fed_of}
use Rattle.session.specs.Views.{view_of, fed_as, Tidy}
use Rattle.session.specs.Acts.{Feeds}
use Rattle.session.specs.Cuts.{FeedCall, rest_before, Drains, Noted, noted_by, event_in, Drained, drained, CodeCutting}
use Rattle.session.specs.declared.state.Session.{Session}
use Rattle.session.proofs.Run.{one-session}

-- ## An answer of the definitions, as the code has it

abbrev case_of : Outcome Event → Case
case_of (refused n) = Refused n
case_of (done Event.hungry) = Hungry
case_of (done Event.list) = Listed
case_of (done (Event.import st)) = Import st
case_of (done (Event.submit u)) = Submit u.ticket u.arrival u.transfer
case_of (done (Event.answer q st)) = Answered q st
case_of (done (Event.unlink q st none)) = Unlink q st None
case_of (done (Event.unlink q st (some t))) = Unlink q st (Some t)
case_of (done (Event.break f ts)) = Break f

case-of : (e : Case) (setup : List ℕ) (iso : List Packet) (ts : Tickets) → e ≡ case_of (event_of e setup iso ts)
case-of Hungry setup iso ts = refl
case-of Listed setup iso ts = refl
case-of (Import st) setup iso ts = refl
case-of (Submit t a u) setup iso ts = refl
case-of (Answered q st) setup iso ts = refl
case-of (Unlink q st (Some t)) setup iso ts = refl
case-of (Unlink q st None) setup iso ts = refl
case-of (Break f) setup iso ts = refl
case-of (Refused n) setup iso ts = refl

abbrev noted_as : Note Cut.Answer ℕ Buffers → Noted
noted_as a =
    let o = a.event.event in
    record {
      event = case_of o;
      length = a.event.length;
      setup = (urb_beside o).setup;
      iso = (urb_beside o).iso;
      dropped = tickets_of (dropped_by o);
      buffers = a.buffers;
      time = a.time;
    }

-- what was answered, consumed and left, with the session as the definitions have it
record Out : Type 0 where
  notes : List Noted
  consumed : ℕ
  buffers : Buffers
  next : Sess

abbrev out_of : Drained → Out
out_of d = record { notes = d.notes; consumed = d.consumed; buffers = d.buffers; next = view_of d.session }

abbrev out_as : Ran Sess Cut.Answer ℕ Buffers → Out
out_as r = record { notes = map noted_as r.notes; consumed = r.consumed; buffers = r.buffers; next = r.next }

-- ## One feed

abbrev first : ℕ → Machine.Fed Sess Cut.Answer Buffers → Out → Out
first time r q =
    record {
      notes = cond (quietly r.event) q.notes (noted_as (record { event = r.event; buffers = r.buffers; time = time }) ∷ q.notes);
      consumed = r.consumed + q.consumed;
      buffers = q.buffers;
      next = q.next;
    }

abbrev first_of : FeedCall → Out → Out
first_of f q =
    record {
      notes = cond (says_nothing (event_in f)) q.notes (noted_by f ∷ q.notes);
      consumed = f.fed.answer.consumed + q.consumed;
      buffers = q.buffers;
      next = q.next;
    }

abbrev first_result : ℕ → Case → Result → Out → Out
first_result time e x q =
    let n : Noted =
    record {
      event = e;
      length = x.length;
      setup = x.setup;
      iso = x.iso;
      dropped = x.dropped;
      buffers = x.buffers;
      time = time;
    } in
    record {
      notes = cond (says_nothing x.event) q.notes (n ∷ q.notes);
      consumed = x.consumed + q.consumed;
      buffers = q.buffers;
      next = q.next;
    }

-- as the definitions have it
first_as : (time : ℕ) (r : Machine.Fed Sess Cut.Answer Buffers) (q : Ran Sess Cut.Answer ℕ Buffers)
    → out_as (before answering quietly closed time r q) ≡ first time r (out_as q)
first_as time r q = λ i. record { notes = at (quietly r.event) i; consumed = r.consumed + q.consumed; buffers = q.buffers; next = q.next }
  where
    at : (c : Bool)
        → let n : Note Cut.Answer ℕ Buffers = record { event = r.event; buffers = r.buffers; time = time } in
        map noted_as (cond c q.notes (n ∷ q.notes)) ≡ cond c (map noted_as q.notes) (noted_as n ∷ map noted_as q.notes)
    at true = refl
    at false = refl

module _ (s : Session) (b : Buffers) (p : List ℕ) (f : FeedCall) (h : Feeds s p b f.exit f.time f.fed) where
  abbrev r : Machine.Fed Sess Cut.Answer Buffers
  r = answering (view_of s) b p f.time

  first_is : (q : Out) → first_of f q ≡ first f.time r q
  unfolding fed_of
  first_is q =
      let a = f.fed.answer in
      ap (λ (e : Case). first_result f.time e (fed_as f.fed f.exit.work f.exit.reply) q) (case-of a.event a.setup a.iso f.fed.dropped)
      ∙ ap (λ (x : Result). first_result f.time (case_of x.event) x q) h.said

  consumed_is : f.fed.answer.consumed ≡ r.consumed
  unfolding fed_of
  consumed_is = ap (λ (x : Result). x.consumed) h.said

  exit_is : f.exit ≡ r.buffers
  unfolding fed_of
  exit_is = ap (λ (x : Result). x.buffers) h.said

  next_is : view_of f.fed.session ≡ r.next
  unfolding fed_of
  next_is = ap (λ (x : Result). x.next) h.said

  -- the buffers stay as long as they were, at least
  exit_enough : Enough b → Enough f.exit
  exit_enough e =
      let u = untouched (view_of s) b p f.time in
      subst Enough (sym exit_is)
      (record {
        work = rw (u.work, length-sets) e.work;
        reply = rw (u.reply, length-append, length-drop) (omega (arith, e.reply));
      })

-- ## All of them

-- the bytes, each with the time of the feed that consumed it; those that a closed session leaves unread have none
abbrev timed : ℕ → List ℕ → List (ℕ × ℕ)
timed time xs = map (λ x. (x, time)) xs

abbrev consumed_in : List ℕ → FeedCall → List ℕ
consumed_in p f = take f.fed.answer.consumed p

abbrev rest_in : List ℕ → List (List ℕ) → FeedCall → List (List ℕ)
rest_in p ps f = rest_before (drop f.fed.answer.consumed p) ps

abbrev stream_by : List FeedCall → List (List ℕ) → List (ℕ × ℕ)
stream_by [] ps = timed 0 (flatten ps)
stream_by (f ∷ fs) [] = []
stream_by (f ∷ fs) (p ∷ ps) = timed f.time (consumed_in p f) ++ stream_by fs (rest_in p ps f)

-- they are the bytes of the pieces
timed_bytes : (time : ℕ) (xs : List ℕ) → map (λ (y : ℕ × ℕ). y.0) (timed time xs) ≡ xs
timed_bytes time [] = refl
timed_bytes time (x ∷ xs) = ap (λ (ys : List ℕ). x ∷ ys) (timed_bytes time xs)

rest-bytes : (xs : List ℕ) (ps : List (List ℕ)) → flatten (rest_before xs ps) ≡ xs ++ flatten ps
unfolding flatten
rest-bytes [] ps = refl
rest-bytes (x ∷ xs) ps = refl

stream-bytes : (fs : List FeedCall) (s : Session) (b : Buffers) (ps : List (List ℕ)) → Drains s b ps fs
    → map (λ (y : ℕ × ℕ). y.0) (stream_by fs ps) ≡ flatten ps
unfolding flatten
stream-bytes [] s b ps h = timed_bytes 0 (flatten ps)
stream-bytes (f ∷ fs) s b [] h = absurd h
stream-bytes (f ∷ fs) s b (p ∷ ps) h =
    let n = f.fed.answer.consumed in
    let on = stream-bytes fs f.fed.session f.exit (rest_in p ps f) h.2 ∙ rest-bytes (drop n p) ps in
    map-append (λ (y : ℕ × ℕ). y.0) (timed f.time (consumed_in p f)) (stream_by fs (rest_in p ps f))
    ∙ (λ i. timed_bytes f.time (consumed_in p f) i ++ on i)
    ∙ sym (append_assoc (take n p) (drop n p) (flatten ps))
    ∙ ap (λ (xs : List ℕ). xs ++ flatten ps) (take-append-drop n p)

-- and the feeds come to what the definitions give, byte by byte
comes : (fs : List FeedCall) (s : Session) (b : Buffers) (ps : List (List ℕ)) → Enough b → Drains s b ps fs
    → out_of (drained s b fs) ≡ out_as (answers_run (view_of s) b (stream_by fs ps))
unfolding flatten
comes [] s b [] e h = sym (ap out_as (none_run (view_of s) b))
comes [] s b (p ∷ ps) e h = sym (ap out_as (shut_run (view_of s) b (timed 0 (flatten (p ∷ ps))) h))
comes (f ∷ fs) s b [] e h = absurd h
comes (f ∷ fs) s b (p ∷ ps) e h =
    let d = r s b p f h.1 in
    let ys = stream_by fs (rest_in p ps f) in
    let on = comes fs f.fed.session f.exit (rest_in p ps f) (exit_enough s b p f h.1 e) h.2 in
    let same : out_as (answers_run (view_of f.fed.session) f.exit ys) ≡ out_as (answers_run d.next d.buffers ys) =
    λ i. out_as (answers_run (next_is s b p f h.1 i) (exit_is s b p f h.1 i) ys) in
    first_is s b p f h.1 (out_of (drained f.fed.session f.exit fs))
    ∙ ap (first f.time d) (on ∙ same)
    ∙ sym (first_as f.time d (answers_run d.next d.buffers ys))
    ∙ ap out_as (sym (answer_run (view_of s) b p f.time ys h.0 e))
    ∙ ap (λ (n : ℕ). out_as (answers_run (view_of s) b (timed f.time (take n p) ++ ys))) (sym (consumed_is s b p f h.1))

-- ## The struct at the end

drained-tidy : (fs : List FeedCall) (s : Session) (b : Buffers) (ps : List (List ℕ)) → Tidy s → Drains s b ps fs → Tidy (drained s b fs).session
drained-tidy [] s b ps t h = t
drained-tidy (f ∷ fs) s b [] t h = absurd h
drained-tidy (f ∷ fs) s b (p ∷ ps) t h = drained-tidy fs f.fed.session f.exit (rest_in p ps f) (h.1.tidy t) h.2

-- the times that were kept
times_as : (ns : List (Note Cut.Answer ℕ Buffers)) → map (λ (n : Noted). n.time) (map noted_as ns) ≡ map (λ (n : Note Cut.Answer ℕ Buffers). n.time) ns
times_as [] = refl
times_as (n ∷ ns) = ap (λ (ts : List ℕ). n.time ∷ ts) (times_as ns)

pub code_cutting : CodeCutting
code_cutting s b ps qs fs gs t e z h k same =
    let x = comes fs s b ps e h in
    let y = comes gs s b qs e k in
    let xs = stream_by fs ps in
    let ys = stream_by gs qs in
    let times : Out → List ℕ = λ o. map (λ (n : Noted). n.time) o.notes in
    let kept = sym (times_as (answers_run (view_of s) b xs).notes) ∙ sym (ap times x) ∙ same ∙ ap times y ∙ times_as (answers_run (view_of s) b ys).notes in
    let bytes = stream-bytes fs s b ps h ∙ z ∙ sym (stream-bytes gs s b qs k) in
    let o = x ∙ ap out_as (same_answers (view_of s) b xs ys bytes kept) ∙ sym y in
    let end =
    one-session (drained s b fs).session (drained s b gs).session (drained-tidy fs s b ps t h) (drained-tidy gs s b qs t k)
    (ap (λ (x : Out). x.next) o) in
    λ i. record { notes = (o i).notes; consumed = (o i).consumed; buffers = (o i).buffers; session = end i }
