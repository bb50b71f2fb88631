-- Each table of tests matches its table of conditions: an answer is given exactly when its condition holds and none
-- before it.
use Prim.Native.Nat.{ℕ, suc, ◌%◌, ◌<◌, ◌≤◌}
use native.Mathlib.Omega.{arith}
use mathlib.Core.Path.{◌≡◌, refl}
use mathlib.Core.Logic.{◌↔◌}
use mathlib.Core.List.{List, [], ◌∷◌, ◌++◌}
use mathlib.Core.Bool.{Bool, true, false, not, cond, ◌||◌, true≢false}
use borrow.Author.Tests.{not-false}
use lib.Dec.{eqb, ltb}
use Rattle.wire.specs.Codes
use Rattle.messages.specs.declared.request.Request.{Request}
use Rattle.messages.specs.declared.message.Header.{Header}
use Rattle.messages.specs.declared.message.Transfer.{Transfer}
use Rattle.ground.proofs.Tests.{leb_iff, eqb_iff, not_iff, and_iff, or_iff, neither, refutes, iff_trans}
use Rattle.limits.specs.Limits
use Rattle.ground.specs.Tests.{Test, test}
use Rattle.ground.specs.Rows.{Row, row}
use Rattle.verdicts.specs.Verdicts.{Not, fault, feed_tests, feed_rows, request_tests, request_rows, transfer_tests, transfer_rows, header_tests, header_rows}
use Rattle.verdicts.specs.Verdicts.{unlink_tests, unlink_rows, submit_tests, submit_rows, completion_tests, completion_rows}
use Rattle.verdicts.specs.Verdicts.{non_isochronous, NonIsochronous, good_count, short_read, ShortRead}
use Rattle.std.specs.Prelude.{is_none, Option as Maybe, Some, None}
use Rattle.verdicts.specs.Verdicts.{of_named}
use Rattle.verdicts.specs.declared.verdict.Named.{Named}
use Rattle.verdicts.specs.declared.verdict.Completing.{Completing}
use Rattle.verdicts.specs.declared.verdict.Fault.{Fault}
use Rattle.ground.proofs.Match.{Match, Decides, before, guarded, either_match}

pub iff_refl : {P : Type 0} → P ↔ P
iff_refl = ((λ x. x), λ x. x)

pub feed_match : (closed : Bool) (work reply : ℕ) (Closed : Type 0) → (closed ≡ true) ↔ Closed
    → Match (feed_tests closed work reply) (feed_rows Closed work reply)
feed_match closed work reply Closed c = (
  refl,
  c,
  λ _.
      (refl, or_iff (leb_iff (suc work) Limits.WORK-LEN) (leb_iff (suc reply) Limits.REPLY-LEN), λ _. tt),
)

pub request_match : (r : Request) → Match (request_tests r) (request_rows r)
request_match r = (
  refl,
  not_iff (eqb_iff r.version Codes.VERSION),
  λ _. (
    refl,
    neither (eqb_iff r.code Codes.OP-REQ-DEVLIST) (eqb_iff r.code Codes.OP-REQ-IMPORT),
    λ _.
        (refl, not_iff (eqb_iff r.status 0), λ _. tt),
  ),
)

-- a number_of_packets that isn't taken
count_iff : (n : ℕ) → (not (good_count n) ≡ true) ↔ ((Limits.MAX-PACKETS < n) × Not n Limits.NO-PACKETS)
count_iff n =
    let more : (n ≤ Limits.MAX-PACKETS → ⊥) ↔ (Limits.MAX-PACKETS < n) = ((λ h. omega (arith, h)), λ h l. omega (arith, h, l)) in
    iff_trans (neither (leb_iff n Limits.MAX-PACKETS) (eqb_iff n Limits.NO-PACKETS))
    ((λ h. (more.0 h.0, h.1)), λ h. (more.1 h.0, h.1))

-- with whatever tests come behind them
transfer_then : (t : Transfer) (ts : List (Test Fault)) (rs : List (Row Fault)) → Match ts rs → Match (transfer_tests t ++ ts) (transfer_rows t ++ rs)
transfer_then t ts rs m = (
  refl,
  leb_iff (suc Codes.DIR-IN) t.direction,
  λ _. (
    refl,
    leb_iff (suc Limits.MAX-TRANSFER) t.length,
    λ _.
        (refl, count_iff t.packets, λ _. m),
  ),
)

pub transfer_match : (t : Transfer) → Match (transfer_tests t) (transfer_rows t)
transfer_match t = transfer_then t [] [] tt

pub unlink_match : (h : Header) (devid : ℕ) (Dirty : Type 0) → (ltb h.dirty Codes.HEADER-LEN ≡ true) ↔ Dirty
    → Match (unlink_tests h devid) (unlink_rows h devid Dirty)
unlink_match h devid Dirty d = (refl, d, λ _. (refl, not_iff (eqb_iff h.devid devid), λ _. tt))

-- what gets past 12 is a submit or an unlink, and not both
pub header_match : (h : Header) (devid : ℕ) (taken : Bool) (Taken Dirty : Type 0) → (taken ≡ true) ↔ Taken → (ltb h.dirty Codes.HEADER-LEN ≡ true) ↔ Dirty
    → Decides (header_tests h devid taken) (header_rows h devid Taken Dirty)
header_match h devid taken Taken Dirty t d =
    let submits = h.command ≡ Codes.CMD-SUBMIT in
    let unlinks = h.command ≡ Codes.CMD-UNLINK in
    let submit = eqb h.command Codes.CMD-SUBMIT in
    let unlink = eqb h.command Codes.CMD-UNLINK in
    let is : (submit ≡ true) ↔ submits = eqb_iff h.command Codes.CMD-SUBMIT in
    let un : (unlink ≡ true) ↔ unlinks = eqb_iff h.command Codes.CMD-UNLINK in
    let pending = test (fault Limits.SEQNUM-PENDING Codes.SEQNUM-AT) taken ∷ [] in
    let rows = row (fault Limits.SEQNUM-PENDING Codes.SEQNUM-AT) Taken ∷ [] in
    let ts = transfer_tests h.transfer ++ pending in
    let rs = transfer_rows h.transfer ++ rows in
    let us = unlink_tests h devid in
    let qs = unlink_rows h devid Dirty in
    before (test (fault Limits.BAD-COMMAND Codes.COMMAND-AT) (not (submit || unlink)))
    (row (fault Limits.BAD-COMMAND Codes.COMMAND-AT) (Not h.command Codes.CMD-SUBMIT × Not h.command Codes.CMD-UNLINK))
    (cond submit ts us) (guarded submits rs ++ guarded unlinks qs) refl (neither is un)
    (λ known. either_match submits unlinks submit
    (λ e. (is.0 e, λ u. omega (arith, is.0 e)))
    (λ e. (refutes is e, un.0 (other submit unlink e known)))
    ts rs (transfer_then h.transfer pending rows (refl, t, λ _. tt)) us qs (unlink_match h devid Dirty d))
  where
    other : (s u : Bool) → s ≡ false → not (s || u) ≡ false → u ≡ true
    other true u e k = absurd (true≢false e)
    other false u e k = not-false u k

pub submit_match : (h : Header) (devid : ℕ) (bad : Bool) (pending accepted : ℕ) (Bad : Type 0) → (bad ≡ true) ↔ Bad
    → Match (submit_tests h devid bad pending accepted) (submit_rows h devid Bad pending accepted)
submit_match h devid bad pending accepted Bad b = (
  refl,
  not_iff (eqb_iff h.devid devid),
  λ _. (
    refl,
    leb_iff (suc Limits.MAX-EP) h.transfer.ep,
    λ _. (
      refl,
      b,
      λ _.
          (refl, or_iff (leb_iff Limits.MAX-PENDING pending) (leb_iff Limits.LAST-TICKET accepted), λ _. tt),
    ),
  ),
)

-- what is asked of the URB that the ticket names, where there is one
named_iff : (o : Maybe Named) (p : Named → Bool) (Q : Type 0) → is_none o ≡ false → ((u : Named) → o ≡ Some u → (p u ≡ true) ↔ Q) → (of_named o p ≡ true) ↔ Q
named_iff None p Q h i = absurd (true≢false h)
named_iff (Some u) p Q h i = i u refl

-- the last two rows are asked of it
pub completion_match : (c : Completing) (Closed Missing : Type 0) (Of : (ℕ → ℕ → Type 0) → Type 0) (Misfit : Type 0)
    → (c.closed ≡ true) ↔ Closed → (is_none c.urb ≡ true) ↔ Missing
    → ((u : Named) → c.urb ≡ Some u → (P : ℕ → ℕ → Type 0) → P u.length u.direction ↔ Of P)
    → ((u : Named) → c.urb ≡ Some u → (not u.fits ≡ true) ↔ Misfit)
    → Match (completion_tests c) (completion_rows c Closed Missing Of Misfit)
completion_match c Closed Missing Of Misfit h m o k = (
  refl,
  h,
  λ _. (
    refl,
    leb_iff (suc c.header) Limits.HEADER-ROOM,
    λ _. (
      refl,
      m,
      λ f. (
        refl,
        iff_refl,
        λ _. (
          refl,
          named_iff c.urb _ _ f (λ u e. or_iff (iff_trans (leb_iff (suc u.length) c.actual) (o u e (λ length direction. length < c.actual))) (k u e)),
          λ _. (
            refl,
            named_iff c.urb _ _ f (λ u e. iff_trans (and_iff (eqb_iff u.direction Codes.DIR-IN) (leb_iff (suc c.payload) c.actual))
                (o u e (λ length direction. (direction ≡ Codes.DIR-IN) × (c.payload < c.actual)))),
            λ _. tt,
          ),
        ),
      ),
    ),
  ),
)

non_isochronous_iff : (packets : ℕ) → (non_isochronous packets ≡ true) ↔ NonIsochronous packets
non_isochronous_iff packets = or_iff (eqb_iff packets 0) (eqb_iff packets Limits.NO-PACKETS)

pub short_read_iff : (u : Transfer) (given actual : ℕ) → (short_read u given actual ≡ true) ↔ ShortRead u given actual
short_read_iff u given actual =
    let kind = and_iff (eqb_iff u.direction Codes.DIR-IN) (non_isochronous_iff u.packets) in
    let asked = and_iff kind (eqb_iff (u.flags % 2) Codes.URB-SHORT-NOT-OK) in
    iff_trans (and_iff (and_iff asked (eqb_iff given 0)) (leb_iff (suc actual) u.length)) (
      (λ h. (h.0.0.0.0, h.0.0.0.1, h.0.0.1, h.0.1, h.1)),
      λ h. ((((h.0, h.1), h.2), h.3), h.4),
    )
