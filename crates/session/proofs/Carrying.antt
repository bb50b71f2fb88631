-- The struct that a plan leaves when it is carried out.
use Prim.Native.Nat.{ℕ, ◌≤◌}
use mathlib.Core.Path.{◌≡◌, sym, ap, subst, ◌∙◌}
use Rattle.std.specs.Prelude.{Option as Maybe, Some}
use borrow.Author.Tests.{eq-eqb, ne_eqb}
use mathlib.Core.List.{List}
use lib.ListN.{length}
use lib.Seq.{sets}
use Rattle.ground.specs.Writing.{Wrote}
use Rattle.results.specs.declared.PacketResult.{PacketResult}
use Rattle.results.specs.declared.Results.{Results}
use Rattle.ground.proofs.Parts.{wrote_all, wrote_count}
use Rattle.pending.specs.Changes.{changed, keeps}
use Rattle.pending.specs.Looks.{look_for}
use Rattle.pending.specs.Pending.{Whole, list_of}
use Rattle.pending.specs.declared.change.Change.{Change}
use Rattle.pending.specs.declared.list.Pending.{Pending}
use Rattle.pending.specs.declared.list.Tickets.{Tickets}
use Rattle.pending.specs.declared.look.Key.TheVariants.{Ticket}
use Rattle.pending.specs.declared.look.Look.{Look}
use Rattle.pending.proofs.Laws.{keep_is}
use Rattle.limits.specs.Limits
use Rattle.model.specs.Acts.{Buffers, Completion}
use Rattle.model.specs.Cut.{lent}
use Rattle.links.specs.Links
use Rattle.links.specs.declared.link.Link.{Link}
use Rattle.events.specs.Answers.{event_of, completion_of, closing_of}
use Rattle.events.specs.Plans.{reply_bytes, request_bytes, data_of, tickets_dropped}
use Rattle.events.specs.declared.plan.Plan.{Plan}
use Rattle.events.specs.declared.plan.RequestPlan.{RequestPlan}
use Rattle.feeding.specs.Asking.{ask_of, look_asked}
use Rattle.feeding.specs.Feeding.{Arrays, Composed}
use Rattle.feeding.specs.Planning.{message_plan, request_plan}
use Rattle.feeding.specs.declared.ask.Asked.{Asked}
use Rattle.feeding.proofs.Acts.{message_composed, request_composed}
use Rattle.settling.specs.Settling.{told, replied, completion_plan, given_for, CompletionDone, close_plan, CloseDone}
use Rattle.settling.specs.declared.close.ClosePlan.{ClosePlan}
use Rattle.settling.specs.declared.completion.CompletionPlan.{CompletionPlan}
use Rattle.settling.specs.declared.completion.Given.{Given}
use Rattle.settling.proofs.Acts.{completion_composed, close_composed}
use Rattle.session.specs.Values.{session_after, fed_by, request_fed, message_fed, feed_value, complete_value, close_value}
use Rattle.session.specs.Acts.{Feeds, Completes, Closes}
use Rattle.session.specs.Views.{Tidy, answer_of}
use Rattle.session.proofs.Planning.{planned_by}
use Rattle.session.specs.declared.state.Session.{Session}
use Rattle.session.specs.declared.answer.Fed.{Fed}
use Rattle.session.specs.declared.answer.Completed.{Completed}
use Rattle.session.specs.declared.answer.Closed.{Closed}

module _ (s : Session) (k : Link) (l : Pending) (c : Change) (e : l ≡ changed s.pending c) where
  abbrev pub next : Session
  next = record { table = s.table; link = k; pending = l }

  pub next-same : Whole s.pending → (k ≡ s.link) × (c ≡ keeps s.pending.count) → next ≡ s
  next-same w h =
      let p : l ≡ s.pending = e ∙ ap (changed s.pending) h.1 ∙ keep_is s.pending w in
      λ i. record { table = s.table; link = h.0 i; pending = p i }

  pub next-tidy : Links.TidyParts (Links.whole s.table k (changed s.pending c)) → Tidy next
  next-tidy = subst (λ (x : Pending). Links.TidyParts (Links.whole s.table k x)) (sym e)

-- ## A feed

-- the plan of a message, and that of a request
module _ (s : Session) (piece : List ℕ) (b : Buffers) (time : ℕ) (h : Arrays s.link s.pending) where
  pub message_planned : (a : Asked) (y : Maybe Look) (r : Plan) → (s.link.phase ≡ Limits.WAITING → ⊥)
      → a ≡ ask_of s.link piece
      → y ≡ look_asked (list_of s.pending) a.key
      → r ≡ message_plan s.link s.pending.count a y piece (length b.work) (length b.reply) time
      → Composed r (reply_bytes r.iso r.reply) s.table s.link s.pending piece b time
  message_planned a y r w e f g =
      let h' = g ∙ planned_by s.link s.pending piece (length b.work) (length b.reply) time a y e f in
      subst (λ (z : Plan). Composed z (reply_bytes z.iso z.reply) s.table s.link s.pending piece b time) (sym h')
      (message_composed s.table s.link s.pending piece b time h w)

  pub request_planned : (r : RequestPlan) → length s.table.devices ≡ Limits.MAX-DEVICES → s.link.phase ≡ Limits.WAITING
      → r ≡ request_plan s.table s.link s.pending.count piece (length b.work) (length b.reply)
      → Composed r.plan (request_bytes s.table r.reply) s.table s.link s.pending piece b time
  request_planned r d w g =
      subst (λ (z : RequestPlan). Composed z.plan (request_bytes s.table z.reply) s.table s.link s.pending piece b time) (sym g)
      (request_composed s.table s.link s.pending piece b time h d w)

-- what a plan leaves when it is carried out on the list and on the buffers
pub feeds_by : (s : Session) (piece : List ℕ) (b exit : Buffers) (time : ℕ) (q : Plan) (bytes : List ℕ) (l : Pending) (ts : Tickets) (n : ℕ)
    → Whole s.pending
    → Composed q bytes s.table s.link s.pending piece b time
    → l ≡ changed s.pending q.change
    → ts ≡ tickets_dropped s.pending q.change
    → exit.work ≡ sets b.work q.body (data_of q piece)
    → Wrote bytes b.reply exit.reply n
    → length bytes ≤ Limits.REPLY-LEN
    → Feeds s piece b exit time
    (record {
      session = record { table = s.table; link = q.link; pending = l };
      answer = answer_of q n;
      dropped = ts;
    })
feeds_by s piece b exit time q bytes l ts n w k e d c wrote small =
    let room = k.takes small in
    record {
      said =
          (λ i.
          record {
            event = event_of q.event q.change.urb.setup q.change.urb.iso (d i);
            setup = q.change.urb.setup;
            iso = q.change.urb.iso;
            dropped = d i;
            consumed = q.consumed;
            length = wrote_count bytes b.reply exit.reply n room wrote i;
            buffers = lent (c i) (wrote_all bytes b.reply exit.reply n room wrote i);
            next = Links.view_of_parts (Links.whole s.table q.link (e i));
          })
          ∙ k.fed;
      same = λ m z. next-same s q.link l q.change e w (k.same m z);
      tidy = λ z. next-tidy s q.link l q.change e (k.tidy z);
    }

-- the very value that it leaves
module _ (s : Session) (piece : List ℕ) (b : Buffers) (out : List ℕ) (time : ℕ) (q : Plan) (bytes : List ℕ) (l : Pending) (ts : Tickets) (n : ℕ)
    (k : Composed q bytes s.table s.link s.pending piece b time)
    (e : l ≡ changed s.pending q.change) (d : ts ≡ tickets_dropped s.pending q.change)
    (wrote : Wrote bytes b.reply out n) (small : length bytes ≤ Limits.REPLY-LEN) where
  abbrev left : Fed
  left = record { session = record { table = s.table; link = q.link; pending = l }; answer = answer_of q n; dropped = ts }

  pub fed_by_lem : left ≡ fed_by s q bytes
  fed_by_lem =
      λ i.
      record {
        session = record { table = s.table; link = q.link; pending = e i };
        answer = answer_of q (wrote_count bytes b.reply out n (k.takes small) wrote i);
        dropped = d i;
      }

-- of a request, and of a message
module _ (s : Session) (piece : List ℕ) (work reply time : ℕ) where
  pub request-value : s.link.phase ≡ Limits.WAITING → request_fed s piece work reply ≡ feed_value s piece work reply time
  unfolding feed_value
  request-value h = rw (eq-eqb _ _ h)

  message-fed : (s.link.phase ≡ Limits.WAITING → ⊥) → message_fed s piece work reply time ≡ feed_value s piece work reply time
  unfolding feed_value
  message-fed h = rw (ne_eqb _ _ h)

  pub request-fed : (r : RequestPlan) → r ≡ request_plan s.table s.link s.pending.count piece work reply
      → fed_by s r.plan (request_bytes s.table r.reply) ≡ request_fed s piece work reply
  request-fed r = ap (λ (z : RequestPlan). fed_by s z.plan (request_bytes s.table z.reply))

  pub message-value : (a : Asked) (y : Maybe Look) (r : Plan) → (s.link.phase ≡ Limits.WAITING → ⊥)
      → a ≡ ask_of s.link piece
      → y ≡ look_asked (list_of s.pending) a.key
      → r ≡ message_plan s.link s.pending.count a y piece work reply time
      → fed_by s r (reply_bytes r.iso r.reply) ≡ feed_value s piece work reply time
  message-value a y r w e f g =
      ap (λ (z : Plan). fed_by s z (reply_bytes z.iso z.reply)) (g ∙ planned_by s.link s.pending piece work reply time a y e f) ∙ message-fed w

-- ## A completion and a close

module _ (s : Session) (given : Given) (ticket : ℕ) (payload header : List ℕ) (y : Maybe Look) (q : CompletionPlan) (w : Whole s.pending)
    (a : (r : Results) → given.results ≡ Some r → length r.list ≡ Limits.MAX-PACKETS) (n : s.link.counts.accepted ≤ Limits.LAST-TICKET)
    (f : y ≡ look_for (list_of s.pending) (Ticket ticket))
    (g : q ≡ completion_plan s.link s.pending.count y given (length payload) (length header)) where
  abbrev rs : List PacketResult
  rs = told given.results

  abbrev c : Completion
  c = given_for given ticket payload header

  pub completion_planned : CompletionDone q s.table s.link s.pending rs c
  completion_planned =
      subst (λ (r : CompletionPlan). CompletionDone r s.table s.link s.pending rs c)
      (sym (g ∙ ap (λ (z : Maybe Look). completion_plan s.link s.pending.count z given (length payload) (length header)) f))
      (completion_composed s.table s.link s.pending given ticket payload header w a n)

  pub completes_by : (exit : List ℕ) (l : Pending) → l ≡ changed s.pending q.change
      → exit ≡ replied q.reply q.iso rs header
      → Completes s c exit (record { session = record { table = s.table; link = q.link; pending = l }; answer = q.answer })
  completes_by exit l e h =
      let k = completion_planned in
      record {
        said =
            (λ i. record { answer = completion_of q.answer; header = h i; next = Links.view_of_parts (Links.whole s.table q.link (e i)) }) ∙ k.done;
        same = λ m z. next-same s q.link l q.change e w (k.same m z);
        tidy = λ z. next-tidy s q.link l q.change e (k.tidy z);
      }

  pub complete-value : (l : Pending) → l ≡ changed s.pending q.change
      → let r : Completed = record { session = record { table = s.table; link = q.link; pending = l }; answer = q.answer } in
      r ≡ complete_value s given ticket (length payload) (length header)
  unfolding complete_value
  complete-value l e =
      (λ i. record { session = record { table = s.table; link = q.link; pending = e i }; answer = q.answer })
      ∙ ap (λ (r : CompletionPlan). record { session = session_after s r.link r.change; answer = r.answer })
      (g ∙ ap (λ (z : Maybe Look). completion_plan s.link s.pending.count z given (length payload) (length header)) f)

pub close-value : (s : Session) (q : ClosePlan) (l : Pending) (ts : Tickets)
    → q ≡ close_plan s.link s.pending.count
    → l ≡ changed s.pending q.change
    → ts ≡ tickets_dropped s.pending q.change
    → let r : Closed = record { session = record { table = s.table; link = q.link; pending = l }; answer = q.answer; dropped = ts } in
    r ≡ close_value s
unfolding close_value
close-value s q l ts g e d =
    (λ i. record { session = record { table = s.table; link = q.link; pending = e i }; answer = q.answer; dropped = d i })
    ∙ ap (λ (r : ClosePlan).
    record { session = session_after s r.link r.change; answer = r.answer; dropped = tickets_dropped s.pending r.change }) g

pub closes_by : (s : Session) (q : ClosePlan) (l : Pending) (ts : Tickets)
    → Whole s.pending
    → s.link.counts.accepted ≤ Limits.LAST-TICKET
    → q ≡ close_plan s.link s.pending.count
    → l ≡ changed s.pending q.change
    → ts ≡ tickets_dropped s.pending q.change
    → Closes s (record { session = record { table = s.table; link = q.link; pending = l }; answer = q.answer; dropped = ts })
closes_by s q l ts w n g e d =
    let k = planned in
    record {
      said = (λ i. record { answer = closing_of q.answer (d i); next = Links.view_of_parts (Links.whole s.table q.link (e i)) }) ∙ k.done;
      dropped = d ∙ k.dropped;
      same = λ m z. next-same s q.link l q.change e w (k.same m z);
      tidy = λ z. next-tidy s q.link l q.change e (k.tidy z);
    }
  where
    planned : CloseDone q s.table s.link s.pending
    planned = subst (λ (r : ClosePlan). CloseDone r s.table s.link s.pending) (sym g) (close_composed s.table s.link s.pending w n)
