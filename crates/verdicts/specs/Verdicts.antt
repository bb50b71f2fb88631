-- The numbers of PROTOCOL.md, 5 and 6: each act's ordered table, once as tests that are computed and once as the conditions that they
-- stand for.
use Rattle.std.specs.Prelude.{ℕ, ◌%◌, ◌<◌, ◌≤◌, ◌≡◌, Bool, true, false, not, cond, is_none, Option as Maybe, Some, None, ◌&&◌, ◌||◌, List, [], ◌∷◌, ◌++◌, ◌⊎◌, eqb, leb, ltb, Result, Ok, Err, ⊤}
use Rattle.std.proofs.Math.Option.{Option, none, some}
use Rattle.wire.specs.Codes
use Rattle.wire.specs.Status.{signed_of, positive, minus}
use Rattle.messages.specs.declared.request.Request.{Request}
use Rattle.messages.specs.declared.message.Header.{Header}
use Rattle.messages.specs.declared.message.Transfer.{Transfer}
use Rattle.limits.specs.Limits
use Rattle.ground.specs.Tests.{Test, test}
use Rattle.ground.specs.Rows.{Row, row}
use Rattle.verdicts.specs.declared.verdict.Refusal.{Refusal}
use Rattle.verdicts.specs.declared.verdict.Refusal.TheVariants.{ShortBuffer, SessionClosed, NotPending, StatusAbove0, Misfit, ShortData}
use Rattle.verdicts.specs.declared.verdict.Fault.{Fault}
use Rattle.verdicts.specs.Numbers.{refusal_number, numbered}
use Rattle.verdicts.specs.declared.verdict.Completing.{Completing}
use Rattle.verdicts.specs.declared.verdict.Named.{Named}

-- ## What the code answers by the first test that holds, if one does

-- It goes on, or it is refused with that.
abbrev pub verdict_of : {E : Type 0} → Option E → Result ⊤ E
verdict_of none = Ok tt
verdict_of (some e) = Err e

-- A fault of the stream: its number, and where it stands in its request or message.
abbrev pub fault : (number at : ℕ) → Fault
fault n at = record { number = n; at = at }

abbrev pub Not : ℕ → ℕ → Type 0
Not a b = a ≡ b → ⊥

-- By number_of_packets a transfer isn't isochronous.
abbrev pub non_isochronous : ℕ → Bool
non_isochronous packets = eqb packets 0 || eqb packets Limits.NO-PACKETS

abbrev pub NonIsochronous : ℕ → Type 0
NonIsochronous packets = (packets ≡ 0) ⊎ (packets ≡ Limits.NO-PACKETS)

-- A number_of_packets that is taken: 0 to 32, or the one that says "none".
abbrev pub good_count : ℕ → Bool
good_count packets = leb packets Limits.MAX-PACKETS || eqb packets Limits.NO-PACKETS

-- ## Feed: before a byte is looked at

-- A session that is closed, and the sizes of the lent buffers.
abbrev pub feed_refusals : (closed : Bool) → (work reply : ℕ) → List (Test Refusal)
feed_refusals closed work reply =
    test SessionClosed closed
    ∷ test ShortBuffer (ltb work Limits.WORK-LEN || ltb reply Limits.REPLY-LEN)
    ∷ []

-- The same table with the numbers.
abbrev pub feed_tests : (closed : Bool) → (work reply : ℕ) → List (Test ℕ)
feed_tests closed work reply = numbered refusal_number (feed_refusals closed work reply)

abbrev pub feed_rows : (closed : Type 0) → (work reply : ℕ) → List (Row ℕ)
feed_rows closed work reply =
    row Limits.SESSION-CLOSED closed
    ∷ row Limits.SHORT-BUFFER ((work < Limits.WORK-LEN) ⊎ (reply < Limits.REPLY-LEN))
    ∷ []

-- ## Feed: 10, 11 and 17 come with the 8th byte of a request

-- A fault stands where the field does that its row speaks of; an unlink's 17 at the first byte of its padding that isn't 0.

abbrev pub request_tests : Request → List (Test Fault)
request_tests r =
    test (fault Limits.BAD-VERSION Codes.VERSION-AT) (not (eqb r.version Codes.VERSION))
    ∷ test (fault Limits.BAD-CODE Codes.CODE-AT) (not (eqb r.code Codes.OP-REQ-DEVLIST || eqb r.code Codes.OP-REQ-IMPORT))
    ∷ test (fault Limits.DIRTY-PADDING Codes.OP-STATUS-AT) (not (eqb r.status 0))
    ∷ []

abbrev pub request_rows : Request → List (Row Fault)
request_rows r =
    row (fault Limits.BAD-VERSION Codes.VERSION-AT) (Not r.version Codes.VERSION)
    ∷ row (fault Limits.BAD-CODE Codes.CODE-AT) (Not r.code Codes.OP-REQ-DEVLIST × Not r.code Codes.OP-REQ-IMPORT)
    ∷ row (fault Limits.DIRTY-PADDING Codes.OP-STATUS-AT) (Not r.status 0)
    ∷ []

-- ## Feed: 12 comes with the 48th byte of a message, 13 to 16 for submits and 17 and 18 for unlinks, too

-- 13 to 15: a submit, by its own fields alone.
abbrev pub transfer_tests : Transfer → List (Test Fault)
transfer_tests t =
    test (fault Limits.BAD-DIRECTION Codes.DIRECTION-AT) (ltb Codes.DIR-IN t.direction)
    ∷ test (fault Limits.BAD-LENGTH Codes.LENGTH-AT) (ltb Limits.MAX-TRANSFER t.length)
    ∷ test (fault Limits.BAD-PACKETS Codes.PACKETS-AT) (not (good_count t.packets))
    ∷ []

abbrev pub transfer_rows : Transfer → List (Row Fault)
transfer_rows t =
    row (fault Limits.BAD-DIRECTION Codes.DIRECTION-AT) (Codes.DIR-IN < t.direction)
    ∷ row (fault Limits.BAD-LENGTH Codes.LENGTH-AT) (Limits.MAX-TRANSFER < t.length)
    ∷ row (fault Limits.BAD-PACKETS Codes.PACKETS-AT) ((Limits.MAX-PACKETS < t.packets) × Not t.packets Limits.NO-PACKETS)
    ∷ []

-- 17 and 18: an unlink, by its own fields and the devid of the device that is attached.
abbrev pub unlink_tests : Header → (devid : ℕ) → List (Test Fault)
unlink_tests h devid =
    test (fault Limits.DIRTY-PADDING h.dirty) (ltb h.dirty Codes.HEADER-LEN)
    ∷ test (fault Limits.BAD-DEVID Codes.DEVID-AT) (not (eqb h.devid devid))
    ∷ []

-- dirty: a byte of the unlink's padding isn't 0.
abbrev pub unlink_rows : Header → (devid : ℕ) → (dirty : Type 0) → List (Row Fault)
unlink_rows h devid dirty =
    row (fault Limits.DIRTY-PADDING h.dirty) dirty
    ∷ row (fault Limits.BAD-DEVID Codes.DEVID-AT) (Not h.devid devid)
    ∷ []

-- taken: the submit's seqnum is pending. What is no submit and gets past 12 is an unlink.
abbrev pub header_tests : Header → (devid : ℕ) → (taken : Bool) → List (Test Fault)
header_tests h devid taken =
    let isSubmit = eqb h.command Codes.CMD-SUBMIT in
    test (fault Limits.BAD-COMMAND Codes.COMMAND-AT) (not (isSubmit || eqb h.command Codes.CMD-UNLINK))
    ∷ cond isSubmit (transfer_tests h.transfer ++ (test (fault Limits.SEQNUM-PENDING Codes.SEQNUM-AT) taken ∷ [])) (unlink_tests h devid)

abbrev pub header_rows : Header → (devid : ℕ) → (taken dirty : Type 0) → List (Row Fault)
header_rows h devid taken dirty =
    let isSubmit = h.command ≡ Codes.CMD-SUBMIT in
    let isUnlink = h.command ≡ Codes.CMD-UNLINK in
    let t = h.transfer in
    row (fault Limits.BAD-COMMAND Codes.COMMAND-AT) (Not h.command Codes.CMD-SUBMIT × Not h.command Codes.CMD-UNLINK)
    ∷ row (fault Limits.BAD-DIRECTION Codes.DIRECTION-AT) (isSubmit × (Codes.DIR-IN < t.direction))
    ∷ row (fault Limits.BAD-LENGTH Codes.LENGTH-AT) (isSubmit × (Limits.MAX-TRANSFER < t.length))
    ∷ row (fault Limits.BAD-PACKETS Codes.PACKETS-AT) (isSubmit × ((Limits.MAX-PACKETS < t.packets) × Not t.packets Limits.NO-PACKETS))
    ∷ row (fault Limits.SEQNUM-PENDING Codes.SEQNUM-AT) (isSubmit × taken)
    ∷ row (fault Limits.DIRTY-PADDING h.dirty) (isUnlink × dirty)
    ∷ row (fault Limits.BAD-DEVID Codes.DEVID-AT) (isUnlink × Not h.devid devid)
    ∷ []

-- ## Feed: a submit that passes is judged when its last byte is in, by status

-- By the devid of the device that is attached, whether it is isochronous and its packets are bad, and how many URBs are pending and were
-- ever accepted.
abbrev pub submit_tests : Header → (devid : ℕ) → (bad : Bool) → (pending accepted : ℕ) → List (Test ℕ)
submit_tests h devid bad pending accepted =
    test (minus Codes.ENODEV) (not (eqb h.devid devid))
    ∷ test (minus Codes.EINVAL) (ltb Limits.MAX-EP h.transfer.ep)
    ∷ test (minus Codes.EINVAL) bad
    ∷ test (minus Codes.ENOMEM) (leb Limits.MAX-PENDING pending || leb Limits.LAST-TICKET accepted)
    ∷ []

-- bad: the submit is isochronous, and its packets aren't good.
abbrev pub submit_rows : Header → (devid : ℕ) → (bad : Type 0) → (pending accepted : ℕ) → List (Row ℕ)
submit_rows h devid bad pending accepted =
    row (minus Codes.ENODEV) (Not h.devid devid)
    ∷ row (minus Codes.EINVAL) (Limits.MAX-EP < h.transfer.ep)
    ∷ row (minus Codes.EINVAL) bad
    ∷ row (minus Codes.ENOMEM) ((Limits.MAX-PENDING ≤ pending) ⊎ (Limits.LAST-TICKET ≤ accepted))
    ∷ []

-- ## Complete

-- Of the URB that a completion names; of none, nothing holds.
abbrev pub of_named : Maybe Named → (Named → Bool) → Bool
of_named None p = false
of_named (Some u) p = p u

abbrev pub completion_refusals : Completing → List (Test Refusal)
completion_refusals c =
    test SessionClosed c.closed
    ∷ test ShortBuffer (ltb c.header Limits.HEADER-ROOM)
    ∷ test NotPending (is_none c.urb)
    ∷ test StatusAbove0 (positive (signed_of c.status))
    ∷ test Misfit (of_named c.urb (λ u. ltb u.length c.actual || not u.fits))
    ∷ test ShortData (of_named c.urb (λ u. eqb u.direction Codes.DIR-IN && ltb c.payload c.actual))
    ∷ []

abbrev pub completion_tests : Completing → List (Test ℕ)
completion_tests c = numbered refusal_number (completion_refusals c)

-- Of P: the pending URB that the ticket names has a length and a direction with P; misfit: it has a kind or packets that the completion
-- doesn't fit.
abbrev pub completion_rows : Completing → (closed missing : Type 0) → (Of : (ℕ → ℕ → Type 0) → Type 0) → (misfit : Type 0) → List (Row ℕ)
completion_rows c closed missing Of misfit =
    row Limits.SESSION-CLOSED closed
    ∷ row Limits.SHORT-BUFFER (c.header < Limits.HEADER-ROOM)
    ∷ row Limits.NOT-PENDING missing
    ∷ row Limits.STATUS-ABOVE-0 (positive (signed_of c.status) ≡ true)
    ∷ row Limits.MISFIT (Of (λ length direction. length < c.actual) ⊎ misfit)
    ∷ row Limits.SHORT-DATA (Of (λ length direction. (direction ≡ Codes.DIR-IN) × (c.payload < c.actual)))
    ∷ []

-- ## Complete: the status sent

-- A read that came short, of a client that doesn't take it as good: a transfer's, with the status and the actual length given.
abbrev pub short_read : Transfer → (given actual : ℕ) → Bool
short_read u given actual =
    eqb u.direction Codes.DIR-IN
    && non_isochronous u.packets
    && eqb (u.flags % 2) Codes.URB-SHORT-NOT-OK
    && eqb given 0
    && ltb actual u.length

abbrev pub ShortRead : Transfer → (given actual : ℕ) → Type 0
ShortRead u given actual =
    (u.direction ≡ Codes.DIR-IN)
    × NonIsochronous u.packets
    × (u.flags % 2 ≡ Codes.URB-SHORT-NOT-OK)
    × (given ≡ 0)
    × (actual < u.length)

-- "is now returned with status -121": the one status of the reply's header and of the answer.
abbrev pub status_sent : Transfer → (given actual : ℕ) → ℕ
status_sent u given actual = cond (short_read u given actual) (minus Codes.EREMOTEIO) given
