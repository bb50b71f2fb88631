-- The plan of a feed: which event the bytes of a piece are, and what goes where.
use Rattle.std.specs.Prelude.{ℕ, is_some, ◌+◌, ◌-◌, not, cond, List, ◌++◌, eqb, ltb, length, take, drop}
use Rattle.wire.specs.Codes
use Rattle.messages.specs.Messages.{request_of, busid_of, data_len, body_len}
use Rattle.exports.specs.declared.device.Table.{Table}
use Rattle.lookup.specs.Lookup.{find_in, devid_in}
use Rattle.std.specs.Prelude.{Option as Maybe, Some, None}
use Rattle.pending.specs.declared.look.Look.{Look}
use Rattle.limits.specs.Limits
use Rattle.ground.specs.Tests.{first, decide}
use Rattle.verdicts.specs.Numbers.{refusal_number}
use Rattle.verdicts.specs.Verdicts.{feed_refusals, request_tests, header_tests}
use Rattle.links.specs.Links.{phase_of}
use Rattle.links.specs.declared.link.Link.{Link}
use Rattle.links.specs.declared.link.Progress.{Progress}
use Rattle.events.specs.Plans.{refused_plan, hungry_plan, broken_plan, submitted_plan, unlinked_plan, with_body, silent_plan, list_plan, unknown_plan, import_plan}
use Rattle.events.specs.declared.plan.Plan.{Plan}
use Rattle.events.specs.declared.plan.RequestPlan.{RequestPlan}
use Rattle.feeding.specs.Asking.{grown}
use Rattle.feeding.specs.declared.ask.Asked.{Asked}

-- k: the link before; n: how many are pending; p: the message in progress; at: the place of the piece; time: what was given with it.

-- ## A message

-- More bytes of a body come: those past the data are the descriptors', and go behind those that came before.
abbrev pub further_on : Progress → List ℕ → Progress
further_on p xs =
    let size = data_len p.header in
    let at = p.body - size in
    let more = drop (size - p.body) xs in
    record {
      head = p.head;
      filled = p.filled;
      header = p.header;
      body = p.body + length xs;
      descriptors = take at p.descriptors ++ (more ++ drop (at + length more) p.descriptors);
    }

-- A submit's body goes to the work buffer at its own position.
abbrev pub body_plan : Link → ℕ → Progress → (at : ℕ) → (piece : List ℕ) → (time : ℕ) → Plan
body_plan k n p at piece time =
    let need = body_len p.header - p.body in
    cond (ltb (length piece - at) need)
    (with_body p.body at (length piece) (hungry_plan k n (further_on p (drop at piece)) (length piece)))
    (with_body p.body at (at + need)
    (submitted_plan k n p.header (further_on p (take need (drop at piece))).descriptors (at + need) time))

abbrev pub submit_plan : Link → ℕ → Progress → (at : ℕ) → (piece : List ℕ) → (time : ℕ) → Plan
submit_plan k n p at piece time =
    cond (eqb (body_len p.header) 0) (submitted_plan k n p.header p.descriptors at time) (body_plan k n p at piece time)

-- A header that was just read, by what was looked up for it.
abbrev pub header_plan : Link → ℕ → Progress → Maybe Look → (at : ℕ) → (piece : List ℕ) → (time : ℕ) → Plan
header_plan k n p look at piece time =
    decide (first (header_tests p.header k.devid (is_some look))) (λ f. broken_plan k n f at)
    (cond (eqb p.header.command Codes.CMD-SUBMIT) (submit_plan k n p at piece time) (unlinked_plan k n p.header look at))

abbrev pub attached_plan : Link → ℕ → Asked → Maybe Look → (piece : List ℕ) → (time : ℕ) → Plan
attached_plan k n a look piece time =
    cond (ltb a.progress.filled Codes.HEADER-LEN) (hungry_plan k n a.progress a.consumed)
    (cond a.read (header_plan k n a.progress look a.consumed piece time) (body_plan k n a.progress 0 piece time))

unfoldable pub message_plan : Link → ℕ → Asked → Maybe Look → (piece : List ℕ) → (work reply time : ℕ) → Plan
message_plan k n a look piece work reply time =
    decide (first (feed_refusals (not (eqb (phase_of k n) Limits.ATTACHED)) work reply)) (λ r. refused_plan k n (refusal_number r)) (attached_plan k n a look piece time)

-- ## A request

abbrev pub imported_plan : Table → Link → ℕ → Maybe ℕ → (consumed : ℕ) → RequestPlan
imported_plan t k n (Some i) consumed = import_plan k n i (devid_in t i) consumed
imported_plan t k n None consumed = unknown_plan k n consumed

abbrev pub lookup_plan : Table → Link → ℕ → (head : List ℕ) → (consumed : ℕ) → RequestPlan
lookup_plan t k n head consumed = imported_plan t k n (find_in t (busid_of head)) consumed

abbrev pub busid_plan : Table → Link → ℕ → Progress → (piece : List ℕ) → (at : ℕ) → RequestPlan
busid_plan t k n p piece at =
    let need = Codes.OP-LEN + Codes.BUSID-LEN - p.filled in
    cond (ltb (length piece - at) need) (silent_plan (hungry_plan k n (grown p (drop at piece)) (length piece)))
    (lookup_plan t k n (grown p (take need (drop at piece))).head (at + need))

abbrev pub head_plan : Table → Link → ℕ → (piece : List ℕ) → RequestPlan
head_plan t k n piece =
    let p = k.progress in
    let need = Codes.OP-LEN - p.filled in
    let q = grown p (take need piece) in
    cond (ltb (length piece) need) (silent_plan (hungry_plan k n (grown p piece) (length piece)))
    (decide (first (request_tests (request_of q.head))) (λ f. silent_plan (broken_plan k n f need))
    (cond (eqb (request_of q.head).code Codes.OP-REQ-DEVLIST) (list_plan k n need) (busid_plan t k n q piece need)))

abbrev pub waiting_plan : Table → Link → ℕ → (piece : List ℕ) → RequestPlan
waiting_plan t k n piece = cond (ltb k.progress.filled Codes.OP-LEN) (head_plan t k n piece) (busid_plan t k n k.progress piece 0)

unfoldable pub request_plan : Table → Link → ℕ → (piece : List ℕ) → (work reply : ℕ) → RequestPlan
request_plan t k n piece work reply =
    decide (first (feed_refusals (not (eqb (phase_of k n) Limits.WAITING)) work reply)) (λ r. silent_plan (refused_plan k n (refusal_number r))) (waiting_plan t k n piece)
