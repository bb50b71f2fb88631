-- What is said at a byte is right by the book, and the book allows its effect.
use Prim.Native.Nat.{ℕ, suc, ◌+◌, ◌-◌, ◌≤◌, ◌<◌}
use native.Mathlib.Omega.{arith}
use mathlib.Core.Path.{◌≡◌, refl, sym, ap, subst, ◌∙◌}
use mathlib.Core.Logic.{inl, inr}
use mathlib.Core.List.{List, [], ◌∷◌, ◌++◌, map}
use mathlib.Core.Bool.{false}
use mathlib.Core.Option.{Option, none, some}
use lib.Dec.{eqb}
use lib.ListN.{length, drop, length-take, drop_of_length-le}
use lib.Seq.{take_all, take-append-le}
use borrow.Author.Tests.{eqb-true, eqb-false, ltb-true, ltb-false}
use Rattle.wire.specs.Codes
use Rattle.messages.specs.Messages.{request_of, busid_of, header_of, body_len, unlink_seqnum}
use Rattle.messages.specs.declared.message.Header.{Header}
use Rattle.messages.specs.declared.request.Request.{Request}
use Rattle.messages.proofs.Headers.{request_stays, unlink-seqnum}
use Rattle.messages.proofs.Padding.{dirty_place}
use Rattle.exports.specs.declared.device.Table.{Table}
use Rattle.lookup.specs.Lookup.{find_in}
use Rattle.std.specs.Prelude.{Option as Maybe, Some, None}
use Rattle.lookup.proofs.First.{find_first}
use Rattle.pending.specs.Pending.{ticket_of, seqnum_of, find_by}
use Rattle.pending.specs.declared.urb.Urb.{Urb}
use Rattle.pending.proofs.Finding.{find_some, find_none}
use Rattle.limits.specs.Limits
use Rattle.ground.specs.Tests.{first, by_first, by_test}
use Rattle.ground.specs.Rows.{Gives, Clear}
use Rattle.verdicts.specs.Verdicts
use Rattle.verdicts.specs.declared.verdict.Fault.{Fault}
use Rattle.ground.proofs.Match.{gives, clear, given_has}
use Rattle.ground.proofs.Cases.{second, differ}
use Rattle.verdicts.proofs.Tables.{request_match}
use Rattle.model.specs.State.{Message, partly, headed, Sess}
use Rattle.model.specs.Answers.{Event, hungry}
use Rattle.model.specs.Judging.{submit_tests_of, submitted, submitting, unlinks, header_tests_of, whole_header, message, requested, looked_up, imports, request}
use Rattle.model.specs.Judging.{judge}
use Rattle.model.specs.Book.{Book, Item, took, effect_of, pending_of}
use Rattle.model.specs.Claims.{header, message_len, request_rows_by, header_rows_by, submit_rows_by, RightRequest, Placed, RightMessage, by_phase}
use Rattle.model.specs.Claims.{descriptors_at, Apart}
use Rattle.model.proofs.Facts.{mem_to, mem_from, mem_found, apart_of}
use Rattle.model.proofs.Packets.{counted_as, carries_packets}
use Rattle.model.proofs.Tables.{header_match, submit_match}
use Rattle.model.proofs.Steps.{message_in, heading, bodied, bytes-in, short, one_more, session_of, Fit, Allowed}

-- ## What is known of a message in progress

abbrev GoodFields : Request → Type 0
GoodFields r = Clear (Verdicts.request_rows r) × (r.code ≡ Codes.OP-REQ-IMPORT)

abbrev GoodRequest : List ℕ → Type 0
GoodRequest p = Clear (request_rows_by (header p)) × ((request_of (header p)).code ≡ Codes.OP-REQ-IMPORT)

-- of a submit the devid isn't asked yet
abbrev GoodHeader : Book → Type 0
GoodHeader b = ((devid : ℕ) → Clear (header_rows_by devid b.items (header b.part))) × ((header_of (header b.part)).command ≡ Codes.CMD-SUBMIT)

-- between two calls
pub record Going (phase : ℕ) (b : Book) : Type 0 where
  pub request : phase ≡ Limits.WAITING → Codes.OP-LEN ≤ length b.part
      → GoodRequest b.part × (length b.part < Codes.OP-LEN + Codes.BUSID-LEN)
  pub message : (phase ≡ Limits.WAITING → ⊥) → Codes.HEADER-LEN ≤ length b.part
      → GoodHeader b × (length b.part < message_len (header b.part))

-- with one byte more
pub record Came (phase : ℕ) (b : Book) : Type 0 where
  pub request : phase ≡ Limits.WAITING → Codes.OP-LEN < length b.part
      → GoodRequest b.part × (length b.part ≤ Codes.OP-LEN + Codes.BUSID-LEN)
  pub message : (phase ≡ Limits.WAITING → ⊥) → Codes.HEADER-LEN < length b.part
      → GoodHeader b × (length b.part ≤ message_len (header b.part))

-- a request's head stays as a byte more comes
head_stays : (p : List ℕ) (x : ℕ) → Codes.OP-LEN ≤ length p → length p < Codes.OP-LEN + Codes.BUSID-LEN
    → request_of (header (p ++ (x ∷ []))) ≡ request_of (header p)
head_stays p x h l =
    let e = take_all Codes.HEADER-LEN (p ++ (x ∷ [])) (omega (arith, one_more p x)) in
    let f = take_all Codes.HEADER-LEN p (omega arith) in
    ap request_of e ∙ request_stays p (x ∷ []) h ∙ ap request_of (sym f)

pub came : (phase : ℕ) (b : Book) (x : ℕ) → Going phase b → Came phase (took b (x ∷ []))
came phase b x g =
    record {
      request =
          λ w l.
          let h : Codes.OP-LEN ≤ length b.part = omega (arith, one_more b.part x) in
          let r = g.request w h in
          let e = head_stays b.part x h r.1 in
          (subst GoodFields (sym e) r.0, omega (arith, one_more b.part x, r.1));
      message =
          λ w l.
          let h : Codes.HEADER-LEN ≤ length b.part = omega (arith, one_more b.part x) in
          let r = g.message w h in
          let e = take-append-le Codes.HEADER-LEN b.part (x ∷ []) h in
          (rw e r.0, rw e (omega (arith, one_more b.part x, r.1)));
    }

-- ## What is said

-- right by the bytes of the message, allowed by the book, and hungry only where the message goes on
abbrev pub Judged : Table → (phase devid time : ℕ) → Book → Event → Type 0
Judged t phase devid time b e =
    by_phase (eqb phase Limits.WAITING) (RightRequest t b.items b.part e) (RightMessage devid time b.items b.part e)
    × Allowed phase b (effect_of e)
    × (e ≡ hungry → Going phase b)

head-length : (p : List ℕ) (n : ℕ) → n ≤ Codes.HEADER-LEN → length (header p) < n → length p < n
head-length p n h l = omega (arith, length-take Codes.HEADER-LEN p)

-- ## A request

-- the busid that is looked up
pub looked-up : (t : Table) (phase devid : ℕ) (b : Book) → length b.part < Codes.HEADER-LEN
    → looked_up (session_of t phase devid b) ≡ find_in t (busid_of (header b.part))
unfolding looked_up
looked-up t phase devid b l = ap (λ m. find_in t (busid_of m)) (bytes-in b.part l)

module _ (t : Table) (devid time : ℕ) (b : Book) (f : Fit Limits.WAITING b) (c : Came Limits.WAITING b) where
  abbrev now : Sess
  now = session_of t Limits.WAITING devid b

  abbrev Asked : Event → Type 0
  Asked e = Judged t Limits.WAITING devid time b e

  -- a request never gets as far as a header
  no_header : length b.part < Codes.HEADER-LEN
  no_header = short (length b.part) (suc Codes.OP-LEN) (λ l. omega arith) (λ l. omega (arith, (c.request refl l).1))

  in_part : message_in b.part ≡ partly (header b.part)
  in_part = heading b.part no_header ∙ ap partly (sym (take_all Codes.HEADER-LEN b.part (omega (arith, no_header))))

  -- a request that goes on
  goes_on : (Codes.OP-LEN ≤ length b.part → GoodRequest b.part × (length b.part < Codes.OP-LEN + Codes.BUSID-LEN)) → Going Limits.WAITING b
  goes_on g = record { request = λ w l. g l; message = λ w l. absurd (w refl) }

  imports-right : (o : Maybe ℕ) → find_in t (busid_of (header b.part)) ≡ o → length b.part ≡ Codes.OP-LEN + Codes.BUSID-LEN → GoodRequest b.part
      → Asked (imports o)
  imports-right (Some i) h l g =
      ((l, g.0, g.1, inl (refl, i, ((find_first t (busid_of (header b.part))).0 i).0 h)), tt, λ p. differ (cc))
  imports-right None h l g =
      ((l, g.0, g.1, inr (refl, (find_first t (busid_of (header b.part))).1.0 h)), f.waiting refl, λ p. differ (cc))

  requested-right : length b.part ≡ Codes.OP-LEN → Asked (requested now (header b.part))
  unfolding requested
  requested-right l =
      let r = request_of (header b.part) in
      let m = request_match r in
      by_first Asked (first (Verdicts.request_tests r))
      (λ n h. ((l, gives (Verdicts.request_tests r) (Verdicts.request_rows r) m n h, refl), refl, λ p. differ (cc)))
      λ h.
      let y = clear (Verdicts.request_tests r) (Verdicts.request_rows r) m h in
      by_test Asked
      (λ k. ((l, y, eqb-true _ _ k), f.waiting refl, λ p. differ (cc)))
      λ k.
      let i : r.code ≡ Codes.OP-REQ-IMPORT = second r.code Codes.OP-REQ-DEVLIST Codes.OP-REQ-IMPORT y.1.0 (eqb-false _ _ k) in
      (inr (omega arith, omega arith, y, i), tt, λ _. goes_on (λ _. ((y, i), omega arith)))

  request-read : Asked (request now (partly (header b.part)))
  unfolding request
  request-read =
      let d = header b.part in
      by_test Asked
      (λ h.
      let l = head-length b.part Codes.OP-LEN (omega arith) (ltb-true _ _ h) in
      (inl l, tt, λ _. goes_on (λ k. absurd (omega arith))))
      λ h.
      by_test Asked
      (λ e. requested-right (omega (arith, eqb-true (length d) Codes.OP-LEN e, length-take Codes.HEADER-LEN b.part)))
      λ e.
      let l : Codes.OP-LEN < length b.part =
      omega (arith, ltb-false (length d) Codes.OP-LEN h, eqb-false (length d) Codes.OP-LEN e, length-take Codes.HEADER-LEN b.part) in
      let g = c.request refl l in
      by_test Asked
      (λ k.
      let s = head-length b.part (Codes.OP-LEN + Codes.BUSID-LEN) (omega arith) (ltb-true _ _ k) in
      (inr (omega arith, s, g.0.0, g.0.1), tt, λ _. goes_on (λ _. (g.0, s))))
      λ k.
      imports-right (looked_up now) (sym (looked-up t Limits.WAITING devid b no_header))
      (omega (arith, g.1, ltb-false (length d) (Codes.OP-LEN + Codes.BUSID-LEN) k, length-take Codes.HEADER-LEN b.part))
      g.0

  request-right : Asked (request now (message_in b.part))
  request-right = subst (λ (m : Message). Asked (request now m)) (sym in_part) request-read

-- ## A message

-- a submit whose header passed has a seqnum that no pending URB has
free : (b : Book) (h : List ℕ) (devid : ℕ) → Clear (header_rows_by devid b.items h) → (header_of h).command ≡ Codes.CMD-SUBMIT
    → Apart (header_of h).transfer.seqnum (map seqnum_of (pending_of b.items))
free b h devid y c =
    apart_of seqnum_of (header_of h).transfer.seqnum (pending_of b.items) (λ u m e. y.1.1.1.1.0 (c, (u, mem_to u b.items m, e)))

-- of the rows of a message 17 alone names a byte of its padding
placed : (devid : ℕ) (is : List Item) (h : List ℕ) (f : Fault) → Gives (header_rows_by devid is h) f → Placed h f
placed devid is h f g =
    given_has (Placed h) (header_rows_by devid is h) f (
      (λ _. other Limits.BAD-COMMAND refl),
      (
        (λ _. other Limits.BAD-DIRECTION refl),
        (
          (λ _. other Limits.BAD-LENGTH refl),
          (
            (λ _. other Limits.BAD-PACKETS refl),
            ((λ _. other Limits.SEQNUM-PENDING refl), ((λ w _. dirty_place h w.1), ((λ _. other Limits.BAD-DEVID refl), tt))),
          ),
        ),
      ),
    )
    g
  where
    other : {A : Type 0} (n : ℕ) → eqb n Limits.DIRTY-PADDING ≡ false → n ≡ Limits.DIRTY-PADDING → A
    other n d e = absurd (eqb-false n Limits.DIRTY-PADDING d e)

-- whatever device is attached
any_devid : (is : List Item) (h : List ℕ) (d e : ℕ) → (header_of h).command ≡ Codes.CMD-SUBMIT → Clear (header_rows_by d is h) → Clear (header_rows_by e is h)
any_devid is h d e c y =
    (y.0, (y.1.0, (y.1.1.0, (y.1.1.1.0, (y.1.1.1.1.0, (y.1.1.1.1.1.0, ((λ q. omega (arith, c, q.0)), tt)))))))

module _ (t : Table) (phase devid time : ℕ) (b : Book) (f : Fit phase b) (away : phase ≡ Limits.WAITING → ⊥) (o : b.closed ≡ false)
    (c : Came phase b) where
  abbrev here : Sess
  here = session_of t phase devid b

  -- the header that came, once it is whole
  abbrev head : Header
  head = header_of (header b.part)

  -- what came behind its data
  abbrev tail : List ℕ
  tail = drop (descriptors_at (header b.part)) b.part

  abbrev Said : Event → Type 0
  Said e = RightMessage devid time b.items b.part e × Allowed phase b (effect_of e) × (e ≡ hungry → Going phase b)

  -- a message that goes on
  proceeds : (Codes.HEADER-LEN ≤ length b.part → GoodHeader b × (length b.part < message_len (header b.part))) → Going phase b
  proceeds g = record { request = λ w l. absurd (away w); message = λ w l. g l }

  -- all of a submit's bytes are in
  submitted-right : GoodHeader b → length b.part ≡ message_len (header b.part) → Said (submitted time here head tail)
  unfolding submitted
  submitted-right g l =
      let d = header b.part in
      let ts = submit_tests_of head tail here in
      let m = submit_match here b b.part refl refl in
      by_first Said (first ts)
      (λ n h. ((l, g.0 devid, g.1, gives ts (submit_rows_by devid b.items b.part) m n h, refl), tt, λ p. differ (cc)))
      λ h.
      let y = clear ts (submit_rows_by devid b.items b.part) m h in (
        (
          l,
          g.0 devid,
          g.1,
          y,
          refl,
          (refl, refl, refl, refl, refl, refl, refl, refl, refl, refl, refl),
          carries_packets (suc (length b.items)) time b.part,
        ),
        (refl, free b d devid (g.0 devid) g.1, o, away),
        λ p. differ (cc),
      )

  submitting-right : GoodHeader b → Codes.HEADER-LEN ≤ length b.part → length b.part ≤ message_len (header b.part)
      → Said (submitting time here head (length b.part - Codes.HEADER-LEN) tail)
  unfolding submitting
  submitting-right g l k =
      let body = length b.part - Codes.HEADER-LEN in
      by_test Said
      (λ h.
      let s : length b.part < message_len (header b.part) = omega (arith, ltb-true body (body_len head) h, counted_as (header b.part)) in
      (inr (l, g.0 devid, g.1, s), tt, λ _. proceeds (λ _. (g, s))))
      λ h. submitted-right g (omega (arith, ltb-false body (body_len head) h, counted_as (header b.part)))

  unlinks-right : (v : Option Urb) → find_by seqnum_of (unlink_seqnum head) (pending_of b.items) ≡ v
      → length b.part ≡ Codes.HEADER-LEN → Clear (header_rows_by devid b.items (header b.part)) → head.command ≡ Codes.CMD-UNLINK
      → Said (unlinks head.transfer.seqnum v)
  unlinks-right none e l y w =
      let n = (find_none seqnum_of (unlink_seqnum head) (pending_of b.items)).0 e in
      ((l, y, w, refl, (refl, λ u m s. n u (mem_from u b.items m) (s ∙ sym (unlink-seqnum (header b.part))))), tt, λ p. differ (cc))
  unlinks-right (some u) e l y w =
      let g = find_some seqnum_of (unlink_seqnum head) (pending_of b.items) u e in (
        (l, y, w, refl, (refl, (u, mem_to u b.items g.1, g.0 ∙ unlink-seqnum (header b.part), refl))),
        mem_found ticket_of (pending_of b.items) u g.1,
        λ p. differ (cc),
      )

  whole-right : length b.part ≡ Codes.HEADER-LEN → Said (whole_header time here head)
  unfolding whole_header
  whole-right l =
      let d = header b.part in
      let m = header_match devid b.items d in
      let bare : length b.part - Codes.HEADER-LEN ≡ 0 = omega arith in
      by_first Said (first (header_tests_of head devid (pending_of b.items)))
      (λ f h. ((l, m.0 f h, refl, placed devid b.items d f (m.0 f h)), refl, λ p. differ (cc)))
      λ h.
      let y = m.1 h in
      by_test Said
      (λ k.
      let e = eqb-true head.command Codes.CMD-SUBMIT k in
      let none : tail ≡ [] = drop_of_length-le b.part {i = descriptors_at d} (omega arith) in
      let s = submitting-right ((λ i. any_devid b.items d devid i e y), e) (omega arith) (omega arith) in
      subst (λ (ds : List ℕ). Said (submitting time here head 0 ds)) none (subst (λ (n : ℕ). Said (submitting time here head n tail)) bare s))
      λ k. unlinks-right _ refl l y (second head.command Codes.CMD-SUBMIT Codes.CMD-UNLINK y.0 (eqb-false _ _ k))

  bodied-right : Codes.HEADER-LEN ≤ length b.part → Said (message time here (headed head (length b.part - Codes.HEADER-LEN) tail))
  unfolding message
  bodied-right l =
      let body = length b.part - Codes.HEADER-LEN in
      by_test Said
      (λ e. whole-right (omega (arith, eqb-true body 0 e)))
      λ e.
      let g = c.message away (omega (arith, eqb-false body 0 e)) in
      submitting-right g.0 l g.1

  heading-right : length b.part < Codes.HEADER-LEN → Said (message time here (partly b.part))
  unfolding message
  heading-right l = (inl l, tt, λ _. proceeds (λ k. absurd (omega arith)))

  message-right : Said (message time here (message_in b.part))
  message-right =
      short (length b.part) Codes.HEADER-LEN
      (λ l. subst (λ (m : Message). Said (message time here m)) (sym (heading b.part l)) (heading-right l))
      (λ l. subst (λ (m : Message). Said (message time here m)) (sym (bodied b.part l)) (bodied-right l))

-- ## A byte

pub judge-right : (t : Table) (phase devid time : ℕ) (b : Book) → Fit phase b → b.closed ≡ false → Came phase b
    → Judged t phase devid time b (judge time (session_of t phase devid b))
unfolding judge
judge-right t phase devid time b f o c = by_test (Judged t phase devid time b) (λ h. waiting (eqb-true phase Limits.WAITING h)) (λ h. attached h)
  where
    waiting : phase ≡ Limits.WAITING → Judged t phase devid time b (request (session_of t phase devid b) (message_in b.part))
    waiting e =
        subst (λ (p : ℕ). Fit p b → Came p b → Judged t p devid time b (request (session_of t p devid b) (message_in b.part))) (sym e)
        (λ f c. request-right t devid time b f c) f c

    attached : eqb phase Limits.WAITING ≡ false → Judged t phase devid time b (message time (session_of t phase devid b) (message_in b.part))
    attached h = rw h (message-right t phase devid time b f (eqb-false phase Limits.WAITING h) o c)
