-- The run theorem speaks of the code's own sessions.
use Prim.Native.Nat.{ℕ}
use native.Mathlib.Omega.{arith}
use mathlib.Core.Path.{◌≡◌, refl, sym, ap, subst, ◌∙◌}
use mathlib.Core.Bool.{Bool, true, false}
use mathlib.Core.List.{List, [], ◌∷◌, map}
use lib.Dec.{eqb}
use Rattle.exports.specs.declared.device.Table.{Table}
use Rattle.pending.specs.Pending.{tickets}
use Rattle.packets.specs.declared.packet.Packet.{Packet}
use Rattle.pending.specs.declared.list.Tickets.{Tickets}
use Rattle.limits.specs.Limits
use Rattle.model.specs.State.{Sess}
use Rattle.model.specs.Answers.{Outcome, refused, done, Event}
use Rattle.model.specs.Acts.{Complete, Close, feed_of, close_of, open_of, stale_of}
use Rattle.model.specs.Cut.{Feeding}
use Rattle.model.specs.Book.{Entry, fed, completed, closing, Book, opened, keep, pending_of}
use Rattle.model.specs.Claims.{entry_of, next_of, Holds, Right, RightRequest, RightMessage, by_phase}
use Rattle.model.specs.Corollaries.{session_after, book_after, book_from}
use Rattle.model.specs.Stale.{RightInquiry}
use Rattle.model.proofs.Runs.{every_run}
use Rattle.model.proofs.Stale.{stale_listed}
use Rattle.model.proofs.Untouched.{untouched, keeps}
use Rattle.links.proofs.Tidy.{one_struct}
use Rattle.events.specs.Plans.{Result as Did}
use Rattle.events.specs.Answers.{open_answer, event_of, completion_of, closing_of, inquiry_of, tickets_of, dropped_by, listed_by}
use Rattle.events.specs.declared.answer.Event.{Event as Case}
use Rattle.events.specs.declared.answer.Event.TheVariants.{Hungry, List as Listed, Import, Submit, Answer as Answered, Unlink, Break, Refused}
use Rattle.events.specs.declared.answer.Returned.{Returned}
use Rattle.std.specs.Prelude.{Result, Ok, Err, ⊤}
use Rattle.verdicts.specs.declared.verdict.Refusal.{Refusal}
use Rattle.feeding.specs.Feeding.{fed_of}
use Rattle.session.specs.Views.{parts_of, view_of, Tidy}
use Rattle.session.specs.Run.{Act, feeds, completes, closes, call_of, entry_by, next_by, Meets, Run, last_of, kept, is_ready, beside_feed, beside_close, Beside}
use Rattle.session.specs.Run.{Lists, CodeRun, CodeInquires, SameStruct, CodeRefuses}
use Rattle.session.specs.declared.state.Session.{Session}

-- ## One act

meets : (s : Session) (a : Act) → Meets s a → (entry_by a ≡ entry_of (view_of s) (call_of a)) × (view_of (next_by a) ≡ next_of (view_of s) (call_of a))
unfolding fed_of
meets s (feeds piece entry exit time r) h = ((λ i. fed piece (h.said i).event (h.said i).consumed), ap (λ (x : Did). x.next) h.said)
meets s (completes c header r) h = ((λ i. completed c.ticket (h.said i).answer), ap (λ (x : Complete). x.next) h.said)
meets s (closes r) h = ((λ i. closing (h.said i).answer), ap (λ (x : Close). x.next) h.said)

tidies : (s : Session) (a : Act) → Meets s a → Tidy s → Tidy (next_by a)
tidies s (feeds piece entry exit time r) h = h.tidy
tidies s (completes c header r) h = h.tidy
tidies s (closes r) h = h.tidy

-- ## The tickets beside an answer

-- an event that is right by the book drops all that is pending there, or nothing
fed-tickets : (c : Bool) (t : Table) (devid time : ℕ) (b : Book) (m : List ℕ) (o : Outcome Event)
    → ((e : Event) → o ≡ done e → by_phase c (RightRequest t b.items m e) (RightMessage devid time b.items m e)) → tickets_of (dropped_by o) ≡ beside_feed b o
fed-tickets c t devid time b m (refused n) h = refl
fed-tickets c t devid time b m (done Event.hungry) h = refl
fed-tickets c t devid time b m (done Event.list) h = refl
fed-tickets c t devid time b m (done (Event.import st)) h = refl
fed-tickets c t devid time b m (done (Event.submit u)) h = refl
fed-tickets c t devid time b m (done (Event.answer q st)) h = refl
fed-tickets c t devid time b m (done (Event.unlink q st r)) h = refl
fed-tickets c t devid time b m (done (Event.break f ts)) h = ap tickets_of (broken c (h (Event.break f ts) refl))
  where
    broken : (c : Bool) → by_phase c (RightRequest t b.items m (Event.break f ts)) (RightMessage devid time b.items m (Event.break f ts))
        → ts ≡ tickets (pending_of b.items)
    broken true k = k.2
    broken false k = k.2

closed-tickets : (b : Book) (o : Outcome (List ℕ)) → ((ts : List ℕ) → o ≡ done ts → ts ≡ tickets (pending_of b.items))
    → tickets_of (listed_by o) ≡ beside_close b o
closed-tickets b (refused n) h = refl
closed-tickets b (done ts) h = ap tickets_of (h ts refl)

beside : (s : Session) (a : Act) (b : Book) → Meets s a → Right (view_of s) b (call_of a) → Beside b a
unfolding fed_of
beside s (feeds piece entry exit time r) b h k =
    let f = feed_of (view_of s) entry piece time in
    ap (λ (x : Did). x.dropped) h.said
    ∙ fed-tickets (eqb (view_of s).link.phase Limits.WAITING) s.table s.link.devid time b _ f.event (λ e q. (k.right e q).1)
    ∙ ap (λ (x : Did). beside_feed b x.event) (sym h.said)
beside s (completes c header r) b h k = tt
beside s (closes r) b h k =
    h.dropped ∙ closed-tickets b (close_of (view_of s)).answer (λ ts q. (k.accepts ts q).1) ∙ ap (λ (x : Close). beside_close b x.answer) (sym h.said)

-- ## All of them

follows : (acts : List Act) (s : Session) (m : Sess) (b : Book) → view_of s ≡ m → Run s acts
    → (view_of (last_of s acts) ≡ session_after m (map call_of acts)) × (kept b acts ≡ book_after m b (map call_of acts))
follows [] s m b e r = (e, refl)
follows (a ∷ more) s m b e r =
    let k = meets s a r.0 in
    let n : view_of (next_by a) ≡ next_of m (call_of a) = k.1 ∙ ap (λ (x : Sess). next_of x (call_of a)) e in
    let z : entry_by a ≡ entry_of m (call_of a) = k.0 ∙ ap (λ (x : Sess). entry_of x (call_of a)) e in
    let f = follows more (next_by a) (next_of m (call_of a)) (keep b (entry_by a)) n r.1 in
    (f.0, f.1 ∙ ap (λ (x : Entry). book_after (next_of m (call_of a)) (keep b x) (map call_of more)) z)

lists : (acts : List Act) (s : Session) (b : Book) → Run s acts → Holds (view_of s) b (map call_of acts) → Lists b acts
lists [] s b r h = tt
lists (a ∷ more) s b r h =
    let k = meets s a r.0 in
    let on : Holds (view_of (next_by a)) (keep b (entry_by a)) (map call_of more) =
    subst (λ (x : Sess). Holds x (keep b (entry_by a)) (map call_of more)) (sym k.1)
    (subst (λ (x : Entry). Holds (next_of (view_of s) (call_of a)) (keep b x) (map call_of more)) (sym k.0) h.7) in
    (beside s a b r.0 h.1, lists more (next_by a) (keep b (entry_by a)) r.1 on)

stays_tidy : (acts : List Act) (s : Session) → Run s acts → Tidy s → Tidy (last_of s acts)
stays_tidy [] s r h = h
stays_tidy (a ∷ more) s r h = stays_tidy more (next_by a) r.1 (tidies s a r.0 h)

ready : (b : Bool) → is_ready (open_answer b) ≡ b
ready true = refl
ready false = refl

pub code_run : CodeRun
code_run t o acts p r =
    let good : is_ready o.answer ≡ (open_of t).good = ap is_ready p.answer ∙ ready (open_of t).good in
    let f = follows acts o.session (open_of t).next (opened (is_ready o.answer)) p.next r in
    let h =
    subst (λ (s : Sess). Holds s (opened (is_ready o.answer)) (map call_of acts)) (sym p.next)
    (subst (λ (b : Bool). Holds (open_of t).next (opened b) (map call_of acts)) (sym good) (every_run t (map call_of acts))) in
    record {
      holds = h;
      last = f.0;
      book = f.1 ∙ ap (λ (b : Bool). book_after (open_of t).next (opened b) (map call_of acts)) good;
      lists = lists acts o.session (opened (is_ready o.answer)) r h;
      tidy = stays_tidy acts o.session r p.tidy;
    }

-- ## The inquiry

pub code_inquires : CodeInquires
code_inquires t o acts time limit r p q h =
    let f = code_run t o acts p q in
    let cs = map call_of acts in
    let said = h.said ∙ ap (λ (z : Sess). stale_of z time limit) f.last in
    subst (λ (b : Book). RightInquiry b time limit (inquiry_of r.answer r.stale)) (sym f.book)
    (subst (λ (x : Outcome (List ℕ)). RightInquiry (book_from t cs) time limit x) (sym said) (stale_listed t cs time limit))

-- ## The struct

-- of tidy sessions the view says all
pub one-session : (s z : Session) → Tidy s → Tidy z → view_of s ≡ view_of z → s ≡ z
one-session s z a b e =
    let p = one_struct (parts_of s) (parts_of z) a b e in
    λ i. record { table = (p i).table; link = (p i).link; pending = (p i).pending }

pub same_struct : SameStruct
same_struct t u o p acts others a r b q e =
    let f = code_run t o acts a r in
    let g = code_run u p others b q in
    one-session (last_of o.session acts) (last_of p.session others) f.tidy g.tidy (f.last ∙ e ∙ sym g.last)

-- ## Refusals

-- what is done isn't refused
never : {A B : Type 0} {x : A} {n : ℕ} → done x ≡ refused n → B
never h = let q : ◌≡◌ {A = ℕ} 0 1 = cc h in absurd (omega arith)

feed_case : (e : Case) (setup : List ℕ) (iso : List Packet) (ts : Tickets) (n : ℕ) → event_of e setup iso ts ≡ refused n
    → (r : ℕ) × (e ≡ Refused r)
feed_case Hungry setup iso ts n h = never h
feed_case Listed setup iso ts n h = never h
feed_case (Import st) setup iso ts n h = never h
feed_case (Submit t a u) setup iso ts n h = never h
feed_case (Answered q st) setup iso ts n h = never h
feed_case (Unlink q st r) setup iso ts n h = never h
feed_case (Break f) setup iso ts n h = never h
feed_case (Refused r) setup iso ts n h = (r, refl)

complete_case : (e : Result Returned Refusal) (n : ℕ) → completion_of e ≡ refused n → (r : Refusal) × (e ≡ Err r)
complete_case (Ok r) n h = never h
complete_case (Err r) n h = (r, refl)

close_case : (e : Result ⊤ Refusal) (ts : Tickets) (n : ℕ) → closing_of e ts ≡ refused n → (r : Refusal) × (e ≡ Err r)
close_case (Ok u) ts n h = never h
close_case (Err r) ts n h = (r, refl)

pub code_refuses : CodeRefuses
unfolding fed_of
code_refuses s (feeds piece entry exit time r) n h e =
    let k = (untouched (view_of s) entry piece time).refuses n (ap (λ (x : Did). x.event) (sym h.said) ∙ e) in
    let w = feed_case r.answer.event r.answer.setup r.answer.iso r.dropped n e in (
      h.same w.0 w.1,
      ap (λ (x : Did). x.buffers) h.said ∙ ap (λ (x : Feeding). x.buffers) k,
      ap (λ (x : Did). x.consumed) h.said ∙ ap (λ (x : Feeding). x.consumed) k,
    )
code_refuses s (completes c header r) n h e =
    let k = (keeps (view_of s) c).complete n (ap (λ (x : Complete). x.answer) (sym h.said) ∙ e) in
    let w = complete_case r.answer n e in
    (h.same w.0 w.1, ap (λ (x : Complete). x.header) (h.said ∙ k))
code_refuses s (closes r) n h e = let w = close_case r.answer r.dropped n e in h.same w.0 w.1
