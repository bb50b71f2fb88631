-- Each table of tests of the session matches its table of rows by the book.
use Prim.Native.Nat.{ℕ}
use native.Mathlib.Omega.{arith}
use mathlib.Core.Path.{◌≡◌, refl, sym, subst, ◌∙◌}
use mathlib.Core.Logic.{◌↔◌}
use mathlib.Core.Bool.{true, not, true≢false}
use mathlib.Core.List.{List}
use mathlib.Core.Option.{Option, none, some}
use lib.ListN.{length, drop}
use Rattle.messages.specs.Messages.{header_of, iso_count}
use Rattle.ground.proofs.Tests.{not_iff, refutes, iff_trans}
use Rattle.ground.proofs.Cases.{by_cond}
use Rattle.pending.specs.Pending.{ticket_of, seqnum_of, find_by, found, ticket_place, urb_at}
use Rattle.pending.specs.declared.urb.Urb.{Urb}
use Rattle.pending.proofs.Finding.{find_some, find_none, urb-first}
use Rattle.pending.proofs.Halving.{ticket_placed}
use Rattle.ground.proofs.Match.{Match, Decides}
use Rattle.messages.proofs.Padding.{dirty_iff}
use Rattle.verdicts.specs.Verdicts.{short_read, status_sent}
use Rattle.verdicts.proofs.Tables
use Rattle.verdicts.proofs.Tables.{iff_refl, short_read_iff}
use Rattle.model.specs.State.{Sess, closed}
use Rattle.model.specs.Judging.{submit_tests_of, header_tests_of}
use Rattle.std.specs.Prelude.{is_none, Some}
use Rattle.verdicts.specs.declared.verdict.Named.{Named}
use Rattle.model.specs.Acts.{named_by, Buffers, feed_tests_of, Completion, kind_fits, completing, completion_tests_of}
use Rattle.model.specs.Book.{Book, Item, pending_of, SomePending, NonePending}
use Rattle.model.specs.Claims.{header, Counted, Holder, Misfit, feed_rows_by, completion_rows_by, header_rows_by, descriptors_at, BadPackets}
use Rattle.model.specs.Claims.{submit_rows_by, SentAs}
use Rattle.model.proofs.Facts.{mem_to, mem_from, distinct-one, tickets_rise, tickets-distinct}
use Rattle.model.proofs.Packets.{bad_iff, misfit_iff}

-- ## Pending items and keys

some-found : (is : List Item) (key : Urb → ℕ) (k : ℕ) (o : Option Urb) → find_by key k (pending_of is) ≡ o → (found o ≡ true) ↔ SomePending is key k
some-found is key k none h = (
  (λ e. absurd (true≢false (sym e))),
  λ s. absurd ((find_none key k (pending_of is)).0 h s.0 (mem_from s.0 is s.1) s.2),
)
some-found is key k (some u) h =
    let f = find_some key k (pending_of is) u h in
    ((λ e. (u, mem_to u is f.1, f.0)), λ s. refl)

-- whether a key is found is whether a pending item has it
pub some_iff : (is : List Item) (key : Urb → ℕ) (k : ℕ) → (found (find_by key k (pending_of is)) ≡ true) ↔ SomePending is key k
some_iff is key k = some-found is key k (find_by key k (pending_of is)) refl

pub none_iff : (is : List Item) (key : Urb → ℕ) (k : ℕ) → (not (found (find_by key k (pending_of is))) ≡ true) ↔ NonePending is key k
none_iff is key k =
    let i = not_iff (some_iff is key k) in
    ((λ h u m e. i.0 h (u, m, e)), λ n. i.1 (λ s. n s.0 s.1 s.2))

-- ## The tables

pub header_match : (devid : ℕ) (is : List Item) (h : List ℕ) → Decides (header_tests_of (header_of h) devid (pending_of is)) (header_rows_by devid is h)
header_match devid is h = Tables.header_match (header_of h) devid _ _ _ (some_iff is seqnum_of (header_of h).transfer.seqnum) (dirty_iff h)

pub submit_match : (s : Sess) (b : Book) (m : List ℕ) → s.pend ≡ pending_of b.items → s.link.counts.accepted ≡ length b.items
    → Match (submit_tests_of (header_of (header m)) (drop (descriptors_at (header m)) m) s) (submit_rows_by s.link.devid b.items m)
submit_match s b m p a =
    rw (p, a)
    (Tables.submit_match (header_of (header m)) s.link.devid _ (length (pending_of b.items)) (length b.items) (BadPackets m) (bad_iff m))

pub feed_match : (s : Sess) (b : Book) (lent : Buffers) → closed s ≡ b.closed → Match (feed_tests_of s lent) (feed_rows_by b lent)
feed_match s b lent c = rw c (Tables.feed_match b.closed (length lent.work) (length lent.reply) (b.closed ≡ true) iff_refl)

-- tickets rise, so halving finds the one that is pending under a ticket
pub named-first : (is : List Item) (t : ℕ) → Counted 1 is → urb_at (ticket_place t (pending_of is)) (pending_of is) ≡ find_by ticket_of t (pending_of is)
named-first is t counted = rw (ticket_placed t (pending_of is) (tickets_rise is counted)) (urb-first ticket_of t (pending_of is))

abbrev named_of : Completion → Urb → Named
named_of c u =
    record {
      length = u.transfer.length;
      direction = u.transfer.direction;
      fits = kind_fits c.kind (iso_count u.transfer.packets) u.iso c.actual;
    }

-- what is asked of the URB that a ticket names, by the book
module _ (b : Book) (t : ℕ) (counted : Counted 1 b.items) where
  pub the_one : (u : Urb) → find_by ticket_of t (pending_of b.items) ≡ some u → (P : Urb → Type 0) → P u ↔ Holder b.items t P
  the_one u h P =
      let us = pending_of b.items in
      let d = tickets-distinct b.items counted in
      let f = find_some ticket_of t us u h in (
        (λ p. (u, mem_to u b.items f.1, f.0, p)),
        λ w.
            let e : w.0 ≡ u = distinct-one ticket_of us w.0 u d (mem_from w.0 b.items w.1) f.1 (w.2 ∙ sym f.0) in
            rw e at w.3,
      )

  -- as it is named
  named_holder : (c : Completion) (o : Option Urb) → find_by ticket_of t (pending_of b.items) ≡ o → (u : Named) → named_by c o ≡ Some u
      → (P : ℕ → ℕ → Type 0) → P u.length u.direction ↔ Holder b.items t (λ x. P x.transfer.length x.transfer.direction)
  named_holder c none h u e P = let q : ◌≡◌ {A = ℕ} 0 1 = cc e in absurd (omega arith)
  named_holder c (some x) h u e P =
      let q : named_of c x ≡ u = cc e in
      subst (λ (z : Named). P z.length z.direction ↔ Holder b.items t (λ x. P x.transfer.length x.transfer.direction)) q
      (the_one x h (λ y. P y.transfer.length y.transfer.direction))

  -- a completion doesn't fit it
  unfitting : (c : Completion) (o : Option Urb) → find_by ticket_of t (pending_of b.items) ≡ o → (u : Named) → named_by c o ≡ Some u
      → (not u.fits ≡ true) ↔ Holder b.items t (Misfit c.kind c.actual)
  unfitting c none h u e = let q : ◌≡◌ {A = ℕ} 0 1 = cc e in absurd (omega arith)
  unfitting c (some x) h u e =
      let q : named_of c x ≡ u = cc e in
      subst (λ (z : Named). (not z.fits ≡ true) ↔ Holder b.items t (Misfit c.kind c.actual)) q
      (iff_trans (misfit_iff c.kind c.actual x) (the_one x h (Misfit c.kind c.actual)))

missing : {N : Type 0} (c : Completion) (o : Option Urb) → (not (found o) ≡ true) ↔ N → (is_none (named_by c o) ≡ true) ↔ N
missing c none i = i
missing c (some u) i = i

pub completion_match : (s : Sess) (b : Book) (c : Completion) → closed s ≡ b.closed → s.pend ≡ pending_of b.items → Counted 1 b.items
    → Match (completion_tests_of s c) (completion_rows_by b c)
completion_match s b c e p counted =
    let o = find_by ticket_of c.ticket (pending_of b.items) in
    rw (e, p, named-first b.items c.ticket counted)
    (Tables.completion_match (completing b.closed o c) _ _ _ _ iff_refl (missing c o (none_iff b.items ticket_of c.ticket))
    (named_holder b c.ticket counted c o refl) (unfitting b c.ticket counted c o refl))

-- ## The status sent

pub sent_as : (u : Urb) (c : Completion) → SentAs u c (status_sent u.transfer c.status c.actual)
sent_as u c =
    let iff = short_read_iff u.transfer c.status c.actual in
    by_cond (SentAs u c) (short_read u.transfer c.status c.actual)
    (λ h. ((λ _. refl), λ n. absurd (n (iff.0 h))))
    (λ h. ((λ y. absurd (refutes iff h y)), λ _. refl))
