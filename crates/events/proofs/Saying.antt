-- The plan of an event, carried out, is that event of the definitions.
use Prim.Native.Nat.{ℕ, suc, ◌+◌, ◌≤◌, ◌<◌}
use native.Mathlib.Numerals.{add-one}
use native.Mathlib.Omega.{arith}
use mathlib.Core.Path.{◌≡◌, refl, sym, ap, ◌∙◌}
use mathlib.Core.Bool.{Bool, true, false, cond}
use mathlib.Core.List.{List, []}
use mathlib.Core.Logic.{inl, inr}
use mathlib.Core.Option.{Option, none, some}
use lib.Dec.{ltb}
use lib.ListN.{length, take, drop, set, get_or, length-map, length-take}
use lib.Seq.{take-take, take-set-le, get_or-take, paste}
use borrow.Author.Tests.{lt-ltb, le-leb}
use native.Mathlib.Nat.{lt_of_not-le}
use Rattle.wire.specs.Codes
use Rattle.wire.specs.Status.{minus}
use Rattle.ground.specs.Writing.{over}
use Rattle.messages.specs.Messages.{busid_of, iso_count, unlink_seqnum}
use Rattle.messages.specs.declared.message.Header.{Header}
use Rattle.packets.specs.Packets.{packets_of, in_array}
use Rattle.packets.specs.declared.packet.Packet.{Packet}
use Rattle.packets.proofs.Reading.{packets_length}
use Rattle.descriptors.specs.Descriptors.{refused_results}
use Rattle.descriptors.proofs.Laws.{descriptors_in_array}
use Rattle.replies.specs.Replies.{submit_reply}
use Rattle.exports.specs.Devices.{devices_of, no_device}
use Rattle.exports.specs.declared.device.Table.{Table}
use Rattle.lookup.specs.Lookup.{device_in, devid_in}
use Rattle.lookup.proofs.First.{find_first}
use Rattle.std.specs.Prelude.{Option as Maybe, Some, None}
use Rattle.pending.specs.Changes.{changed, keeps, appends, removes, clears}
use Rattle.pending.specs.Looks.{look_by}
use Rattle.pending.specs.Pending.{blank, ticket_of, seqnum_of, tickets, find_by, At, place_by, list_of, Whole}
use Rattle.pending.specs.declared.change.Change.{Change}
use Rattle.pending.specs.declared.list.Pending.{Pending}
use Rattle.pending.specs.declared.look.Look.{Look}
use Rattle.pending.specs.declared.urb.Urb.{Urb}
use Rattle.pending.proofs.Finding.{look_none, look_some}
use Rattle.pending.proofs.Laws.{view_length, changed-whole, changed-count, keep_is, append_view, append-count, append_sound, remove_view, remove_count}
use Rattle.pending.proofs.Laws.{remove_sound, clear_view, clear_sound, tickets_view}
use Rattle.limits.specs.Limits
use Rattle.ground.specs.Tests.{Test, first, decide, by_first, pick}
use Rattle.verdicts.specs.Verdicts.{submit_tests, submit_rows}
use Rattle.verdicts.specs.declared.verdict.Fault.{Fault}
use Rattle.ground.proofs.Match.{clear}
use Rattle.verdicts.proofs.Tables.{submit_match}
use Rattle.model.specs.State
use Rattle.model.specs.State.{Message, headed, bytes_in, submit_packets, Sess, unlinked, one_accepted}
use Rattle.model.specs.Answers.{done, Event, hungry, list, import, submit, answer, unlink}
use Rattle.model.specs.Judging.{breaks, urb_of, bad_packets, submitted, unlinks, looked_up}
use Rattle.model.specs.Acts.{Buffers, after, between, drops, ret_for, refusal_for, reply_to, write_reply}
use Rattle.model.specs.Cut.{lent}
use Rattle.links.specs.Links.{counts_fit, progress_fits, message_of, during, view_of_parts, whole, link_with_progress, resting, plus, ended_link, Attached, Clean}
use Rattle.links.specs.Links.{Padded, TidyParts}
use Rattle.links.specs.declared.link.Link.{Link}
use Rattle.links.specs.declared.link.Progress.{Progress}
use Rattle.links.proofs.Fits.{counts_known, even_counts, plus-fits}
use Rattle.links.proofs.Tidy.{none-padded}
use Rattle.links.proofs.Views.{view_fit, view_shut, view_attached}
use Rattle.events.specs.Answers.{event_of, urb_beside, tickets_of, dropped_by}
use Rattle.events.specs.Plans.{Result, plain, with_iso, hungry_plan, broken_plan, answered_plan, accepted_plan, submitted_plan, removed_plan, missed_plan}
use Rattle.events.specs.Plans.{unlinked_plan, list_plan, unknown_plan, import_plan, refusal_bytes, reply_bytes, request_bytes, parts_after}
use Rattle.events.specs.Plans.{tickets_dropped, carried_with}
use Rattle.events.specs.declared.answer.Event.{Event as Case}
use Rattle.events.specs.declared.answer.Event.TheVariants.{Submit}
use Rattle.events.specs.declared.plan.Plan.{Plan}
use Rattle.events.specs.declared.plan.Reply.{Reply}

-- what a feed answers and leaves when an event is said, with a session's bytes in
unfoldable pub result_at : Sess → Buffers → ℕ → Event → Result
result_at s b consumed e =
    record {
      event = done e;
      setup = (urb_beside (done e)).setup;
      iso = (urb_beside (done e)).iso;
      dropped = tickets_of (dropped_by (done e));
      consumed = consumed;
      length = length (reply_to s e);
      buffers = write_reply s e b;
      next = after s e;
    }

-- a plan with this reply says an event in a session with this message in progress, whatever the piece and the buffers are; it copies
-- nothing, and what it leaves is tidy if the list and the message are
pub record Says (bytes : List ℕ) (r : Plan) (t : Table) (k : Link) (l : Pending) (m : Message) (consumed : ℕ) (e : Event) : Type 0 where
  pub copies : (r.body ≡ 0) × (r.from ≡ 0) × (r.to ≡ 0)
  pub said : (piece : List ℕ) (b : Buffers) → carried_with bytes t l r piece b ≡ result_at (during (whole t k l) m) b consumed e
  pub tidy : Clean l → Padded r.link.progress → TidyParts (parts_after t l r)

-- ## A plan, part by part

-- one that copies nothing
module _ (t : Table) (k : Link) (l : Pending) (m : Message) (e : Event) where
  abbrev s : Sess
  s = during (whole t k l) m

  says : (next : Link) (c : Change) (n : Case) (consumed : ℕ) (reply : Maybe Reply) (iso : List Packet) (bytes : List ℕ)
      → event_of n c.urb.setup c.urb.iso (tickets_dropped l c) ≡ done e → c.urb ≡ urb_beside (done e)
      → tickets_dropped l c ≡ tickets_of (dropped_by (done e)) → bytes ≡ reply_to s e
      → view_of_parts (whole t next (changed l c)) ≡ after s e → next.phase ≡ (after s e).link.phase → (Clean l → Clean (changed l c))
      → Says bytes (with_iso iso (plain next c n consumed reply)) t k l m consumed e
  unfolding result_at write_reply
  says next c n consumed reply iso bytes v u d x w p g =
      record {
        copies = (refl, refl, refl);
        said =
            λ piece b i.
            record {
              event = v i;
              setup = (u i).setup;
              iso = (u i).iso;
              dropped = d i;
              consumed = consumed;
              length = length (x i);
              buffers = lent b.work (over (x i) b.reply);
              next = w i;
            };
        tidy = λ y h. record { list = g y; head = h; phase = p ∙ sym (ap (λ (z : Sess). z.link.phase) w) };
      }

-- ## The list stays as it is

pub keep_clean : (l : Pending) → Clean l → Clean (changed l (keeps l.count))
keep_clean l h = rw (keep_is l h.0) h

-- behind a list that fits nothing is looked at
keep_view : (l : Pending) → l.count ≤ Limits.MAX-PENDING → list_of (changed l (keeps l.count)) ≡ list_of l
unfolding changed
keep_view l h = at (ltb 0 (length l.urbs))
  where
    at : (b : Bool) → take l.count (set (cond b (paste l.urbs 0 (drop 1 l.urbs) 0) l.urbs) Limits.MAX-PENDING blank) ≡ take l.count l.urbs
    at true = take-set-le l.count l.urbs Limits.MAX-PENDING blank h
    at false = take-set-le l.count l.urbs Limits.MAX-PENDING blank h

pub kept : (t : Table) (k : Link) (l : Pending) → l.count ≤ Limits.MAX-PENDING
    → view_of_parts (whole t k (changed l (keeps l.count))) ≡ view_of_parts (whole t k l)
kept t k l h = rw (keep_view l h, changed-count l (keeps l.count))

-- ## A message goes on

pub hungry_says : (t : Table) (k : Link) (l : Pending) (p : Progress) (consumed : ℕ) → counts_fit k.counts l.count ≡ true
    → progress_fits k.phase p ≡ true → Says [] (hungry_plan k l.count p consumed) t k l (message_of p) consumed hungry
unfolding reply_to
hungry_says t k l p consumed c f =
    let next = link_with_progress p k in
    says t k l (message_of p) hungry next (keeps l.count) _ consumed _ (in_array []) [] refl refl refl refl
    (kept t next l (counts_known k.counts l.count c).0 ∙ view_fit (whole t next l) c f)
    refl (keep_clean l)

-- ## All is dropped

-- the tickets of all that is pending, as the code lists them
module _ (l : Pending) where
  taken : take l.count (list_of l) ≡ list_of l
  taken = take-take l.count l.count l.urbs (omega arith)

  pub all-dropped : tickets_dropped l (clears l.count) ≡ tickets_of (tickets (list_of l))
  all-dropped = rw (taken, length-map (list_of l) ticket_of)

  pub all_listed : let ts = tickets_dropped l (clears l.count) in take ts.count ts.tickets ≡ tickets (list_of l)
  all_listed = rw taken (tickets_view (list_of l))

pub clear_clean : (l : Pending) → Clean l → Clean (changed l (clears l.count))
clear_clean l h = (changed-whole l (clears l.count) h.0, clear_sound l l.count h.0 h.1 (omega arith))

pub drops-all : (t : Table) (k : Link) (l : Pending) (m : Message) → counts_fit k.counts l.count ≡ true → Whole l
    → k.counts.accepted ≤ Limits.LAST-TICKET
    → view_of_parts (whole t (ended_link k l.count) (changed l (clears l.count))) ≡ between (drops (during (whole t k l) m))
drops-all t k l m c w b =
    let known = counts_known k.counts l.count c in
    let d = plus-fits k.counts.dropped l.count k.counts.accepted b (omega (arith, known.1)) in
    view_shut t k.devid _ (changed l (clears l.count)) ∙ rw (clear_view l l.count, d, view_length l w known.0)

pub broken_says : (t : Table) (k : Link) (l : Pending) (m : Message) (f : Fault) (consumed : ℕ) → counts_fit k.counts l.count ≡ true → Whole l
    → k.counts.accepted ≤ Limits.LAST-TICKET → Says [] (broken_plan k l.count f consumed) t k l m consumed (breaks (during (whole t k l) m) f)
unfolding reply_to
broken_says t k l m f consumed c w b =
    says t k l m (breaks (during (whole t k l) m) f) (ended_link k l.count) (clears l.count) _ consumed _ (in_array []) []
    (rw (all_listed l)) refl (all-dropped l) refl
    (drops-all t k l m c w b) refl (clear_clean l)

pub broken-padded : (k : Link) (n : ℕ) (f : Fault) (consumed : ℕ) → Padded (broken_plan k n f consumed).link.progress
broken-padded k n f consumed = none-padded

-- ## A submit

-- a list with room takes the URB, and nothing is dropped
module _ (l : Pending) (n : ℕ) (u : Urb) (h : n < Limits.MAX-PENDING) where
  append-drops : tickets_dropped l (appends n u) ≡ tickets_of []
  unfolding appends
  append-drops = rw (lt-ltb n Limits.MAX-PENDING h)

  append-urb : (appends n u).urb ≡ u
  unfolding appends
  append-urb = rw (lt-ltb n Limits.MAX-PENDING h)

-- what is accepted has room
room-left : (h : Header) (devid : ℕ) (bad : Bool) (n accepted : ℕ) → first (submit_tests h devid bad n accepted) ≡ none
    → (n < Limits.MAX-PENDING) × (accepted < Limits.LAST-TICKET)
room-left h devid bad n accepted f =
    let m = submit_match h devid bad n accepted (bad ≡ true) ((λ e. e), λ e. e) in
    let c = (clear (submit_tests h devid bad n accepted) (submit_rows h devid (bad ≡ true) n accepted) m f).1.1.1.0 in
    (lt_of_not-le {n = Limits.MAX-PENDING} {m = n} (λ q. c (inl q)), lt_of_not-le {n = Limits.LAST-TICKET} {m = accepted} (λ q. c (inr q)))

-- blank places behind the packets aren't in the reply
refusal_is : (h : Header) (ds : List ℕ) (status : ℕ)
    → let ks = submit_packets h ds in refusal_bytes (in_array ks) (ret_for h.transfer status 0 0) ≡ refusal_for h.transfer ks status
unfolding submit_reply
refusal_is h ds status =
    let n = iso_count h.transfer.packets in
    rw (descriptors_in_array (packets_of n ds) (refused_results n status), packets_length n ds)

module _ (t : Table) (k : Link) (l : Pending) (h : Header) (body : ℕ) (ds : List ℕ) (consumed time : ℕ) (a : Attached (whole t k l)) (w : Whole l) where
  abbrev m : Message
  m = headed h body ds

  abbrev iso : List Packet
  iso = in_array (submit_packets h ds)

  fit : l.count ≤ Limits.MAX-PENDING
  fit = (counts_known k.counts l.count a.0).0

  answered_says : (status : ℕ) → let r = answered_plan k l.count h iso status consumed in
      Says (reply_bytes r.iso r.reply) r t k l m consumed (answer h.transfer.seqnum status)
  unfolding reply_to
  answered_says status =
      let next = resting Limits.ATTACHED k.devid k.counts in
      says t k l m (answer h.transfer.seqnum status) next (keeps l.count) _ consumed _ iso _ refl refl refl (refusal_is h ds status)
      (kept t next l fit ∙ view_attached t k.devid k.counts l a.0 ∙ rw a.1)
      (sym a.1) (keep_clean l)

  accepted_says : l.count < Limits.MAX-PENDING → k.counts.accepted < Limits.LAST-TICKET
      → Says [] (accepted_plan k l.count h iso consumed time) t k l m consumed (submit (urb_of (suc k.counts.accepted) time h ds))
  unfolding reply_to
  accepted_says room b =
      let c = k.counts in
      let next : plus c.accepted 1 ≡ suc c.accepted = plus-fits c.accepted 1 Limits.LAST-TICKET (omega arith) (omega arith) ∙ add-one c.accepted in
      let urb = urb_of (suc c.accepted) time h ds in
      let list = changed l (appends l.count urb) in
      let n : list.count ≡ l.count + 1 = append-count l urb room in
      let counts = one_accepted c in
      let even = even_counts counts list.count (omega arith) (omega (arith, (counts_known c l.count a.0).1)) in
      let set = append-urb l l.count urb room in
      rw next
      (says t k l m (submit urb) (resting Limits.ATTACHED k.devid counts) (appends l.count urb) _ consumed _ (in_array []) []
      (ap (λ (u : Urb). event_of (Submit urb.ticket time h.transfer) u.setup u.iso (tickets_dropped l (appends l.count urb))) set)
      set
      (append-drops l l.count urb room) refl
      (view_attached t k.devid counts list even ∙ rw (append_view l urb w room, a.1))
      (sym a.1)
      (λ y. (changed-whole l (appends l.count urb) w, append_sound l urb w y.1)))

pub submitted_says : (t : Table) (k : Link) (l : Pending) (h : Header) (body : ℕ) (ds : List ℕ) (consumed time : ℕ) → Attached (whole t k l) → Whole l
    → k.counts.accepted ≤ Limits.LAST-TICKET → let r = submitted_plan k l.count h ds consumed time in
    Says (reply_bytes r.iso r.reply) r t k l (headed h body ds) consumed (submitted time (during (whole t k l) (headed h body ds)) h ds)
unfolding submitted_plan submitted decide
submitted_says t k l h body ds consumed time a w _ =
    rw (view_length l w (counts_known k.counts l.count a.0).0) (at (first tests) refl)
  where
    iso : List Packet
    iso = in_array (submit_packets h ds)

    bad : Bool
    bad = bad_packets h.transfer (submit_packets h ds)

    tests : List (Test ℕ)
    tests = submit_tests h k.devid bad l.count k.counts.accepted

    at : (o : Option ℕ) → first tests ≡ o
        → let r = decide o (λ status. answered_plan k l.count h iso status consumed) (accepted_plan k l.count h iso consumed time) in
        Says (reply_bytes r.iso r.reply) r t k l (headed h body ds) consumed
        (decide o (answer h.transfer.seqnum) (submit (urb_of (suc k.counts.accepted) time h ds)))
    at none f =
        let room = room-left h k.devid bad l.count k.counts.accepted f in
        accepted_says t k l h body ds consumed time a w room.0 room.1
    at (some status) f = answered_says t k l h body ds consumed time a w status

-- by the packets alone
pub submitted_alike : (k : Link) (n : ℕ) (h : Header) (ds es : List ℕ) (consumed time : ℕ) → submit_packets h ds ≡ submit_packets h es
    → submitted_plan k n h ds consumed time ≡ submitted_plan k n h es consumed time
unfolding submitted_plan
submitted_alike k n h ds es consumed time e = rw e

pub submitted-padded : (k : Link) (n : ℕ) (h : Header) (ds : List ℕ) (consumed time : ℕ)
    → Padded (submitted_plan k n h ds consumed time).link.progress
unfolding submitted_plan
submitted-padded k n h ds consumed time =
    let bad = bad_packets h.transfer (submit_packets h ds) in
    by_first (λ (r : Plan). Padded r.link.progress) (first (submit_tests h k.devid bad n k.counts.accepted)) (λ _ _. none-padded) (λ _. none-padded)

-- ## An unlink

pub remove_clean : (l : Pending) (i : ℕ) → Clean l → Clean (changed l (removes l.count i))
remove_clean l i h = (changed-whole l (removes l.count i) h.0, remove_sound l i h.0 h.1)

module _ (l : Pending) (n i : ℕ) (h : i < n) (m : n ≤ Limits.MAX-PENDING) where
  remove_drops : tickets_dropped l (removes n i) ≡ tickets_of []
  unfolding removes
  remove_drops = rw (lt-ltb i n h, le-leb n Limits.MAX-PENDING m)

  remove_urb : (removes n i).urb ≡ blank
  unfolding removes
  remove_urb = rw (lt-ltb i n h, le-leb n Limits.MAX-PENDING m)

module _ (t : Table) (k : Link) (l : Pending) (h : Header) (consumed : ℕ) (a : Attached (whole t k l)) (w : Whole l) where
  missed_says : let r = missed_plan k l.count h consumed in
      Says (reply_bytes r.iso r.reply) r t k l (headed h 0 []) consumed (unlink h.transfer.seqnum 0 none)
  unfolding reply_to
  missed_says =
      let next = resting Limits.ATTACHED k.devid k.counts in
      says t k l (headed h 0 []) (unlink h.transfer.seqnum 0 none) next (keeps l.count) _ consumed _ (in_array []) _ refl refl refl refl
      (kept t next l (counts_known k.counts l.count a.0).0 ∙ view_attached t k.devid k.counts l a.0 ∙ rw a.1)
      (sym a.1) (keep_clean l)

  removed_says : (look : Look) → place_by seqnum_of (unlink_seqnum h) (list_of l) ≡ At look.place → look.place < length (list_of l)
      → k.counts.accepted ≤ Limits.LAST-TICKET → let r = removed_plan k l.count h look consumed in
      Says (reply_bytes r.iso r.reply) r t k l (headed h 0 []) consumed (unlink h.transfer.seqnum (minus Codes.ECONNRESET) (some look.ticket))
  unfolding reply_to
  removed_says look e inside b =
      let c = k.counts in
      let c' = counts_known c l.count a.0 in
      let i : look.place < l.count = omega (arith, view_length l w c'.0) in
      let next = plus-fits c.unlinked 1 c.accepted b (omega (arith, c'.1)) in
      let list = changed l (removes l.count look.place) in
      let n : list.count + 1 ≡ l.count = remove_count l look.place w i c'.0 in
      let counts = State.ended unlinked 1 c in
      let even = even_counts counts list.count (omega (arith, c'.0)) (omega (arith, c'.1)) in
      rw next
      (says t k l (headed h 0 []) (unlink h.transfer.seqnum (minus Codes.ECONNRESET) (some look.ticket))
      (resting Limits.ATTACHED k.devid counts) (removes l.count look.place) _ consumed _ (in_array []) _
      refl (remove_urb l l.count look.place i c'.0) (remove_drops l l.count look.place i c'.0) refl
      (view_attached t k.devid counts list even ∙ rw (remove_view l look.place w (place_by seqnum_of (unlink_seqnum h) (list_of l)) e i c'.0, a.1))
      (sym a.1)
      (remove_clean l look.place))

pub unlinked_says : (t : Table) (k : Link) (l : Pending) (h : Header) (consumed : ℕ) → Attached (whole t k l) → Whole l
    → k.counts.accepted ≤ Limits.LAST-TICKET → let look = look_by seqnum_of (unlink_seqnum h) (list_of l) in
    let r = unlinked_plan k l.count h look consumed in
    Says (reply_bytes r.iso r.reply) r t k l (headed h 0 []) consumed (unlinks h.transfer.seqnum (find_by seqnum_of (unlink_seqnum h) (list_of l)))
unlinked_says t k l h consumed a w b = at (find_by seqnum_of q (list_of l)) refl
  where
    q : ℕ
    q = unlink_seqnum h

    look : Maybe Look
    look = look_by seqnum_of q (list_of l)

    at : (o : Option Urb) → find_by seqnum_of q (list_of l) ≡ o → let r = unlinked_plan k l.count h look consumed in
        Says (reply_bytes r.iso r.reply) r t k l (headed h 0 []) consumed (unlinks h.transfer.seqnum o)
    at none e = rw (look_none seqnum_of q (list_of l) e) (missed_says t k l h consumed a w)
    at (some u) e =
        let f = look_some seqnum_of q (list_of l) u e in
        rw f.3 (removed_says t k l h consumed a w (record { place = f.0; ticket = ticket_of u; transfer = u.transfer; iso = u.iso }) f.1 f.2 b)

pub unlinked_padded : (k : Link) (n : ℕ) (h : Header) (look : Maybe Look) (consumed : ℕ) → Padded (unlinked_plan k n h look consumed).link.progress
unlinked_padded k n h None consumed = none-padded
unlinked_padded k n h (Some look) consumed = none-padded

-- ## A request

-- a phase begins, and the list stays as it is
module _ (t : Table) (k : Link) (l : Pending) (m : Message) (consumed : ℕ) (c : counts_fit k.counts l.count ≡ true) where
  rest_view : (phase devid : ℕ)
      → let next = resting phase devid k.counts in view_of_parts (whole t next (changed l (keeps l.count))) ≡ view_of_parts (whole t next l)
  rest_view phase devid = kept t (resting phase devid k.counts) l (counts_known k.counts l.count c).0

  pub list_says : let r = list_plan k l.count consumed in Says (request_bytes t r.reply) r.plan t k l m consumed list
  unfolding reply_to
  list_says =
      says t k l m list (resting Limits.CLOSED k.devid k.counts) (keeps l.count) _ consumed _ (in_array []) _ refl refl refl refl
      (rest_view Limits.CLOSED k.devid ∙ view_shut t k.devid k.counts l)
      refl (keep_clean l)

  pub unknown_says : looked_up (during (whole t k l) m) ≡ None → let r = unknown_plan k l.count consumed in
      Says (request_bytes t r.reply) r.plan t k l m consumed (import 1)
  unfolding reply_to pick
  unknown_says f =
      says t k l m (import 1) (resting Limits.CLOSED k.devid k.counts) (keeps l.count) _ consumed _ (in_array []) _ refl refl refl (rw f)
      (rest_view Limits.CLOSED k.devid ∙ view_shut t k.devid k.counts l)
      refl (keep_clean l)

-- the device that is found stands at its place in the array
found_device : (t : Table) (s : Sess) (i : ℕ) → s.table ≡ t → length t.devices ≡ Limits.MAX-DEVICES → looked_up s ≡ Some i
    → device_in t i ≡ get_or (devices_of t) i no_device
unfolding looked_up
found_device t s i e w f =
    let busid = busid_of (bytes_in s.link.message) in
    let inside = (((find_first t busid).0 i).0 (rw e at f)).inside in
    let n = length-take t.count t.devices in
    rw (lt-ltb i Limits.MAX-DEVICES (omega arith)) (sym (get_or-take t.count t.devices i no_device (omega arith)))

pub import_says : (t : Table) (k : Link) (l : Pending) (m : Message) (i consumed : ℕ) → counts_fit k.counts l.count ≡ true
    → looked_up (during (whole t k l) m) ≡ Some i → length t.devices ≡ Limits.MAX-DEVICES → let r = import_plan k l.count i (devid_in t i) consumed in
    Says (request_bytes t r.reply) r.plan t k l m consumed (import 0)
unfolding reply_to pick
import_says t k l m i consumed c f w =
    let d = found_device t (during (whole t k l) m) i refl w f in
    says t k l m (import 0) (resting Limits.ATTACHED (devid_in t i) k.counts) (keeps l.count) _ consumed _ (in_array []) _ refl refl refl (rw (f, d))
    (rest_view t k l m consumed c Limits.ATTACHED (devid_in t i) ∙ view_attached t (devid_in t i) k.counts l c ∙ rw (f, d))
    refl (keep_clean l)

pub list-padded : (k : Link) (n consumed : ℕ) → Padded (list_plan k n consumed).plan.link.progress
list-padded k n consumed = none-padded

pub unknown_padded : (k : Link) (n consumed : ℕ) → Padded (unknown_plan k n consumed).plan.link.progress
unknown_padded k n consumed = none-padded

pub import-padded : (k : Link) (n place devid consumed : ℕ) → Padded (import_plan k n place devid consumed).plan.link.progress
import-padded k n place devid consumed = none-padded
