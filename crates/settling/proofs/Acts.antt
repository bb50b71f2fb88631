-- A completion and a close of the code are those of the definitions.
use Prim.Native.Nat.{ℕ, ◌+◌, ◌≤◌, ◌<◌}
use native.Mathlib.Omega.{arith}
use mathlib.Core.Path.{◌≡◌, refl, sym, ap, ◌∙◌}
use mathlib.Core.Bool.{Bool, true, false, cond, ◌&&◌, true≢false}
use mathlib.Core.List.{List}
use mathlib.Core.Option.{Option, none, some}
use lib.Dec.{eqb, ltb}
use lib.ListN.{length, take, get_or}
use borrow.Author.Tests.{eqb-true}
use Rattle.ground.specs.Writing.{over}
use Rattle.messages.specs.Messages.{iso_count}
use Rattle.packets.specs.declared.packet.Packet.{Packet}
use Rattle.results.specs.Results.{results_of, results_fit, errors}
use Rattle.results.specs.declared.Results.{Results}
use Rattle.results.proofs.Laws.{results_length, results_inside}
use Rattle.replies.specs.Replies.{submit_reply}
use Rattle.exports.specs.declared.device.Table.{Table}
use Rattle.transmit.specs.Part.{wire_length}
use Rattle.pending.specs.Changes.{changed, removes, clears}
use Rattle.pending.specs.Looks.{look_at}
use Rattle.std.specs.Prelude.{Option as Maybe, Some, None}
use Rattle.pending.specs.Pending.{ticket_of, no_urb, tickets, Place, At, Nothing, ticket_place, urb_at, list_of, Whole}
use Rattle.pending.specs.declared.list.Pending.{Pending}
use Rattle.pending.specs.declared.look.Look.{Look}
use Rattle.pending.specs.declared.urb.Urb.{Urb}
use Rattle.pending.proofs.Halving.{ticket-inside}
use Rattle.pending.proofs.Laws.{view_length, keep_is, remove_view, remove_count}
use Rattle.limits.specs.Limits
use Rattle.ground.specs.Tests.{Test, first, decide, pick}
use Rattle.verdicts.specs.Verdicts
use Rattle.verdicts.specs.Numbers.{refusal_number}
use Rattle.verdicts.specs.declared.verdict.Completing.{Completing}
use Rattle.verdicts.specs.declared.verdict.Named.{Named}
use Rattle.verdicts.specs.declared.verdict.Refusal.{Refusal}
use Rattle.verdicts.proofs.Deciding.{first_numbered}
use Rattle.verdicts.proofs.Good.{completion_clear}
use Rattle.model.specs.State
use Rattle.model.specs.State.{Sess, returned}
use Rattle.model.specs.Acts
use Rattle.model.specs.Answers.{refused, done}
use Rattle.model.specs.Acts.{Kind, plain, isochronous, results_in, kind_fits, the_transfer, the_packets, ret_for, refused_completion, complete_of, close_of}
use Rattle.model.proofs.Packets.{iso-most}
use Rattle.links.specs.Links.{Parts, phase_of, message_of, bare_of, view_of_parts, whole, link_with_counts, plus, ended_link, Live, TidyParts}
use Rattle.links.specs.declared.link.Link.{Link}
use Rattle.links.proofs.Fits.{counts_known, even_counts, plus-fits}
use Rattle.links.proofs.Views.{view_fit, live, live_view}
use Rattle.links.proofs.Tidy.{none-padded}
use Rattle.events.specs.Answers.{tickets_of, listed_by}
use Rattle.events.proofs.Saying.{remove_clean, clear_clean, drops-all, all-dropped, all_listed}
use Rattle.settling.specs.Settling.{kind_of_results, kind_of, told, named_look, found_plan, given_for, judged_by, returned_link, refusal_plan, return_plan, completion_plan, CompletionDone}
use Rattle.settling.specs.Settling.{CompletionComposed, refused_close}
use Rattle.settling.specs.Settling.{dropping_close, close_plan, CloseDone, CloseComposed}
use Rattle.settling.specs.declared.completion.Given.{Given}

-- ## A completion

and_left : (s t : Bool) → (s && t) ≡ true → s ≡ true
and_left true t h = refl
and_left false t h = h

and_right : (s t : Bool) → (s && t) ≡ true → t ≡ true
and_right true t h = h
and_right false t h = absurd (true≢false (sym h))

-- what is seen at a place is the URB there
look_named : (given : Given) (c : Acts.Completion) (us : List Urb) (p : Place) → c.kind ≡ kind_of given → c.actual ≡ given.actual
    → named_look given (look_at us p) ≡ Acts.named_by c (urb_at p us)
look_named given c us (At i) k a = rw (k, a)
look_named given c us Nothing k a = refl

look_place : (us : List Urb) (p : Place) (seen : Look) → look_at us p ≡ Some seen → p ≡ At seen.place
look_place us (At i) seen e =
    let u = get_or us i no_urb in
    let q : ◌≡◌ {A = Look} (record { place = i; ticket = ticket_of u; transfer = u.transfer; iso = u.iso }) seen = cc e in
    ap (λ (z : Look). At z.place) q
look_place us Nothing seen e = let q : ◌≡◌ {A = ℕ} 0 1 = cc e in absurd (omega arith)

look_transfer : (us : List Urb) (p : Place) (seen : Look) → look_at us p ≡ Some seen → seen.transfer ≡ the_transfer (urb_at p us)
look_transfer us (At i) seen e =
    let u = get_or us i no_urb in
    let q : ◌≡◌ {A = Look} (record { place = i; ticket = ticket_of u; transfer = u.transfer; iso = u.iso }) seen = cc e in
    ap (λ (z : Look). z.transfer) (sym q)
look_transfer us Nothing seen e = let q : ◌≡◌ {A = ℕ} 0 1 = cc e in absurd (omega arith)

look_packets : (us : List Urb) (p : Place) (seen : Look) → look_at us p ≡ Some seen → seen.iso ≡ the_packets (urb_at p us)
look_packets us (At i) seen e =
    let u = get_or us i no_urb in
    let q : ◌≡◌ {A = Look} (record { place = i; ticket = ticket_of u; transfer = u.transfer; iso = u.iso }) seen = cc e in
    ap (λ (z : Look). z.iso) (sym q)
look_packets us Nothing seen e = let q : ◌≡◌ {A = ℕ} 0 1 = cc e in absurd (omega arith)

-- that it fits is said of what was found
named_it : (given : Given) (it : Look) (u : Named) → named_look given (Some it) ≡ Some u
    → kind_fits (kind_of given) (iso_count it.transfer.packets) it.iso given.actual ≡ u.fits
named_it given it u e =
    let t = it.transfer in
    let q : ◌≡◌ {A = Named}
    (record { length = t.length; direction = t.direction; fits = kind_fits (kind_of given) (iso_count t.packets) it.iso given.actual }) u = cc e in
    ap (λ (z : Named). z.fits) q

-- of a completion that fits, as many results as the URB has packets are all there are
all_sent : (rs : Maybe Results) (n : ℕ) (ks : List Packet) (total : ℕ) → ((r : Results) → rs ≡ Some r → length r.list ≡ Limits.MAX-PACKETS)
    → n ≤ Limits.MAX-PACKETS → kind_fits (kind_of_results rs) n ks total ≡ true → take n (told rs) ≡ results_in (kind_of_results rs)
unfolding results_fit
all_sent None n ks total l m f = rw (eqb-true n 0 f)
all_sent (Some r) n ks total l m f =
    let fit = and_right (ltb 0 n) _ f in
    let e : r.count ≡ n = sym (results_length r (l r refl)) ∙ eqb-true (length (results_of r)) n (and_left _ _ fit) in
    ap (λ i. take i r.list) (sym e) ∙ sym (results_inside r (omega (arith, e)))

-- as the definitions have it
abbrev accepted_completion : Sess → Acts.Completion → Acts.Complete
accepted_completion s c =
    let u = the_transfer (Acts.named s c) in
    let rs = results_in c.kind in
    let sent = Verdicts.status_sent u c.status c.actual in
    record {
      answer = done (record { wire = wire_length u.direction c.actual (iso_count u.packets); status = sent });
      header = over (submit_reply (ret_for u sent c.actual (errors rs)) (the_packets (Acts.named s c)) rs) c.header;
      next = Acts.settles (Acts.named_place s c) returned s;
    }

module _ (s : Sess) (c : Acts.Completion) where
  complete-refused : (n : ℕ) → first (Acts.completion_tests_of s c) ≡ some n → complete_of s c ≡ refused_completion s c n
  unfolding complete_of decide
  complete-refused n f = rw f

  complete-returns : first (Acts.completion_tests_of s c) ≡ none → complete_of s c ≡ accepted_completion s c
  unfolding complete_of decide
  complete-returns f = rw f

module _ (t : Table) (k : Link) (l : Pending) (given : Given) (ticket : ℕ) (payload header : List ℕ) (w : Whole l) where
  abbrev s : Parts
  s = whole t k l

  abbrev c : Acts.Completion
  c = given_for given ticket payload header

  abbrev where_is : Place
  where_is = ticket_place c.ticket (list_of l)

  abbrev look : Maybe Look
  look = look_at (list_of l) where_is

  abbrev seen : Completing
  seen = judged_by (phase_of k l.count) look given (length c.payload) (length c.header)

  abbrev tests : List (Test Refusal)
  tests = Verdicts.completion_refusals seen

  -- the code judges by what the definitions judge by
  judged : Verdicts.completion_tests seen ≡ Acts.completion_tests_of (view_of_parts s) c
  judged =
      λ i.
      Verdicts.completion_tests
      (record {
        closed = eqb (phase_of k l.count) Limits.CLOSED;
        header = length c.header;
        status = c.status;
        actual = c.actual;
        payload = length c.payload;
        urb = look_named given c (list_of l) where_is refl refl i;
      })

  -- with their numbers
  numbers : first (Acts.completion_tests_of (view_of_parts s) c) ≡ decide (first tests) (λ r. some (refusal_number r)) none
  numbers = ap first (sym judged) ∙ first_numbered refusal_number tests

  refused-done : (r : Refusal) → first tests ≡ some r → CompletionDone (refusal_plan k l.count r) t k l (told given.results) c
  unfolding decide
  refused-done r f =
      record {
        fits = λ e. absurd (true≢false (sym e));
        done = rw (keep_is l w) (sym (complete-refused (view_of_parts s) c (refusal_number r) (numbers ∙ rw f)));
        same = λ _ _. (refl, refl);
        tidy = λ h. rw (keep_is l w) h;
      }

  -- one less is pending, and one more returned
  module _ (b : k.counts.accepted ≤ Limits.LAST-TICKET) (v : Live s) (it : Look) (f : look ≡ Some it) where
    abbrev left : Pending
    left = changed l (removes l.count it.place)

    known : (l.count ≤ Limits.MAX-PENDING) × (k.counts.accepted ≡ l.count + k.counts.returned + k.counts.unlinked + k.counts.dropped)
    known = counts_known k.counts l.count v.0

    placed : (where_is ≡ At it.place) × (it.place < l.count)
    placed =
        let p = look_place (list_of l) where_is it f in
        (p, omega (arith, (ticket-inside c.ticket (list_of l) it.place p).0, view_length l w known.0))

    counted : plus k.counts.returned 1 ≡ k.counts.returned + 1
    counted = plus-fits k.counts.returned 1 k.counts.accepted b (omega (arith, placed.1, known.1))

    fits : view_of_parts (whole t (returned_link k) left) ≡ bare_of (whole t (returned_link k) left)
    fits =
        let n : left.count + 1 ≡ l.count = remove_count l it.place w placed.1 known.0 in
        let counts = State.ended returned 1 k.counts in
        let even = even_counts counts left.count (omega (arith, known.0)) (omega (arith, known.1)) in
        rw counted (view_fit (whole t (link_with_counts counts k) left) even v.1)

    settled : view_of_parts (whole t (returned_link k) left) ≡ Acts.settles where_is returned (view_of_parts s)
    settled =
        let bare : bare_of (whole t (returned_link k) left) ≡ Acts.settles where_is returned (bare_of s) =
        rw (counted, remove_view l it.place w where_is placed.0 placed.1 known.0) in
        fits ∙ bare ∙ ap (Acts.settles where_is returned) (sym (live_view s v))

    returned_tidy : TidyParts s → TidyParts (whole t (returned_link k) left)
    returned_tidy h =
        record { list = remove_clean l it.place h.list; head = h.head; phase = sym (ap (λ (z : Sess). z.link.phase) fits) }

  -- what no test refuses was found
  found_one : first tests ≡ none → (it : Look) × (look ≡ Some it)
  unfolding decide
  found_one f = at look refl
    where
      at : (o : Maybe Look) → look ≡ o → (it : Look) × (look ≡ Some it)
      at None h =
          let good = completion_clear seen (first_numbered refusal_number tests ∙ rw f) in
          let q : ◌≡◌ {A = Maybe Named} None (Some good.2.0) = sym (ap (named_look given) h) ∙ good.2.1 in
          absurd (let z : ◌≡◌ {A = ℕ} 0 1 = cc q in omega arith)
      at (Some it) h = (it, h)

  found-done : ((r : Results) → given.results ≡ Some r → length r.list ≡ Limits.MAX-PACKETS) → k.counts.accepted ≤ Limits.LAST-TICKET
      → first tests ≡ none → (it : Look) → look ≡ Some it → CompletionDone (return_plan k l.count it given) t k l (told given.results) c
  unfolding decide
  found-done a b f it h =
      let good = completion_clear seen (first_numbered refusal_number tests ∙ rw f) in
      let v = live s good.0 in
      let u = look_transfer (list_of l) where_is it h in
      let ks = look_packets (list_of l) where_is it h in
      let n = iso_count it.transfer.packets in
      let fit : kind_fits (kind_of given) n it.iso given.actual ≡ true =
      named_it given it good.2.0 (sym (ap (named_look given) h) ∙ good.2.1) ∙ good.2.2 in
      let rs = all_sent given.results n it.iso given.actual a (iso-most it.transfer.packets) fit in
      let e = settled b v it h in
      record {
        fits = λ _. good.1;
        done =
            (λ i.
            let sent = Verdicts.status_sent (u i) c.status c.actual in
            record {
              answer = done (record { wire = wire_length (u i).direction c.actual (iso_count (u i).packets); status = sent });
              header = over (submit_reply (ret_for (u i) sent c.actual (errors (results_in c.kind))) (ks i) (rs i)) c.header;
              next = e i;
            })
            ∙ sym (complete-returns (view_of_parts s) c (numbers ∙ rw f));
        same = λ r e. let z : ◌≡◌ {A = ℕ} 0 1 = cc in absurd (omega arith);
        tidy = returned_tidy b v it h;
      }

  returned_done : ((r : Results) → given.results ≡ Some r → length r.list ≡ Limits.MAX-PACKETS) → k.counts.accepted ≤ Limits.LAST-TICKET
      → first tests ≡ none → (it : Look) × (look ≡ Some it) × CompletionDone (return_plan k l.count it given) t k l (told given.results) c
  returned_done a b f = let o = found_one f in (o.0, o.1, found-done a b f o.0 o.1)

pub completion_composed : CompletionComposed
unfolding completion_plan decide
completion_composed t k l given ticket payload header w a b = at (first (tests t k l given ticket payload header w)) refl
  where
    at : (o : Option Refusal) → first (tests t k l given ticket payload header w) ≡ o
        → CompletionDone (decide o (refusal_plan k l.count) (found_plan k l.count (look t k l given ticket payload header w) given)) t k l
        (told given.results) (given_for given ticket payload header)
    at none f = let d = returned_done t k l given ticket payload header w a b f in rw d.1 d.2
    at (some r) f = refused-done t k l given ticket payload header w r f

-- ## A close

-- as the definitions have it
module _ (s : Sess) where
  close-refused : State.closed s ≡ true → close_of s ≡ record { answer = refused Limits.SESSION-CLOSED; next = s }
  unfolding close_of pick
  close-refused h = rw h

  close-ends : State.closed s ≡ false → close_of s ≡ record { answer = done (tickets s.pend); next = Acts.between (Acts.drops s) }
  unfolding close_of pick
  close-ends h = rw h

module _ (t : Table) (k : Link) (l : Pending) (w : Whole l) where
  abbrev closing : Parts
  closing = whole t k l

  close-kept : eqb (phase_of k l.count) Limits.CLOSED ≡ true → CloseDone (refused_close k l.count) t k l
  close-kept h =
      let e = close-refused (view_of_parts closing) h in
      record {
        done = rw (keep_is l w) (sym e);
        dropped = ap (λ (z : Acts.Close). tickets_of (listed_by z.answer)) (sym e);
        same = λ n q. (refl, refl);
        tidy = λ y. rw (keep_is l w) y;
      }

  close-dropped : k.counts.accepted ≤ Limits.LAST-TICKET → eqb (phase_of k l.count) Limits.CLOSED ≡ false
      → CloseDone (dropping_close k l.count) t k l
  close-dropped b h =
      let e = close-ends (view_of_parts closing) h in
      let v = live closing h in
      let bare : view_of_parts (whole t (ended_link k l.count) (changed l (clears l.count))) ≡ Acts.between (Acts.drops (bare_of closing)) =
      drops-all t k l (message_of k.progress) v.0 w b in
      let next = bare ∙ ap (λ (z : Sess). Acts.between (Acts.drops z)) (sym (live_view closing v)) in
      record {
        done = (λ i. record { answer = done (all_listed l i); next = next i }) ∙ sym e;
        dropped = all-dropped l ∙ ap (λ (z : Acts.Close). tickets_of (listed_by z.answer)) (sym e);
        same = λ n q. let z : ◌≡◌ {A = ℕ} 0 1 = cc in absurd (omega arith);
        tidy =
            λ y.
            record { list = clear_clean l y.list; head = none-padded; phase = sym (ap (λ (z : Sess). z.link.phase) next) };
      }

pub close_composed : CloseComposed
unfolding close_plan
close_composed t k l w b = at (eqb (phase_of k l.count) Limits.CLOSED) refl
  where
    at : (c : Bool) → eqb (phase_of k l.count) Limits.CLOSED ≡ c
        → CloseDone (cond c (refused_close k l.count) (dropping_close k l.count)) t k l
    at true h = close-kept t k l w h
    at false h = close-dropped t k l w b h
