-- The plan for a request.
use Prim.Native.Nat.{ℕ, ◌+◌, ◌-◌, ◌≤◌, ◌<◌}
use native.Mathlib.Omega.{arith}
use mathlib.Core.Path.{◌≡◌, refl, sym, ap, ◌∙◌}
use mathlib.Core.Bool.{Bool, true, false, cond}
use mathlib.Core.List.{List, ◌++◌}
use mathlib.Core.Option.{none, some}
use lib.Dec.{eqb, ltb}
use lib.ListN.{length, take, drop, length-drop}
use borrow.Author.Tests.{eqb-true, eqb-false, ltb-true, ltb-false}
use Rattle.wire.specs.Codes
use Rattle.messages.specs.Messages.{request_of, busid_of}
use Rattle.messages.specs.declared.request.Request.{Request}
use Rattle.exports.specs.declared.device.Table.{Table}
use Rattle.lookup.specs.Lookup.{find_in, devid_in}
use Rattle.std.specs.Prelude.{Option as Maybe, Some, None}
use Rattle.pending.specs.Pending.{Whole}
use Rattle.pending.specs.declared.list.Pending.{Pending}
use Rattle.limits.specs.Limits
use Rattle.ground.specs.Tests.{first, decide, by_first}
use Rattle.verdicts.specs.Verdicts.{request_tests}
use Rattle.verdicts.specs.declared.verdict.Fault.{Fault}
use Rattle.model.specs.State.{partly, Sess}
use Rattle.model.specs.Answers.{Event, hungry, list, import, is_hungry}
use Rattle.model.specs.Judging.{judge, requested, looked_up, imports, breaks}
use Rattle.model.specs.Acts.{Buffers}
use Rattle.links.specs.Links.{Parts, whole, message_of, during, counts_fit}
use Rattle.links.specs.declared.link.Link.{Link}
use Rattle.links.specs.declared.link.Progress.{Progress}
use Rattle.links.proofs.Fits.{fits_waiting}
use Rattle.events.specs.Plans.{hungry_plan, broken_plan, silent_plan, list_plan, request_bytes}
use Rattle.events.specs.declared.plan.RequestPlan.{RequestPlan}
use Rattle.events.proofs.Saying.{result_at, hungry_says, broken_says, broken-padded, list_says, list-padded, unknown_says, unknown_padded, import_says}
use Rattle.events.proofs.Saying.{import-padded}
use Rattle.feeding.specs.Asking.{grown}
use Rattle.feeding.specs.Planning.{imported_plan, lookup_plan, busid_plan, head_plan, waiting_plan}
use Rattle.feeding.proofs.Stages.{Calm, fed_from, Makes, unplaced, part_length, part-waits, part_says, part_goes_on}
use Rattle.feeding.proofs.Moments.{at_8, at_40, request_bad, request-list, request-import}
use Rattle.feeding.proofs.Headers.{came, grown-length, grown-size, grown-padded, request_front, busid_front, message-grown, grown_makes, request_calm}
use Rattle.feeding.proofs.Headers.{busid_calm}
use Rattle.feeding.proofs.Pieces.{Feeds, feeds, feeds_on}

module _ (t : Table) (k : Link) (l : Pending) (w : k.phase ≡ Limits.WAITING) (c : counts_fit k.counts l.count ≡ true) (v : Whole l)
    (z : k.counts.accepted ≤ Limits.LAST-TICKET) (ds : length t.devices ≡ Limits.MAX-DEVICES) (piece : List ℕ) (time : ℕ) where
  abbrev s : Parts
  s = whole t k l

  abbrev Fed : ℕ → Progress → RequestPlan → Type 0
  Fed at p r = Feeds (request_bytes t r.reply) r.plan t k l at p piece time

  -- all that is left comes before the n-th byte
  wait_feeds : (at : ℕ) (p : Progress) (n : ℕ) → length p.head ≡ Codes.HEADER-LEN → at ≤ length piece → p.filled < n
      → n ≤ Codes.OP-LEN + Codes.BUSID-LEN → Calm (during s (message_of p)) (n - p.filled) → length piece - at < n - p.filled
      → Fed at p (silent_plan (hungry_plan k l.count (grown p (drop at piece)) (length piece)))
  wait_feeds at p n size m h o calm e =
      let xs = drop at piece in
      let x : length xs ≡ length piece - at = length-drop at piece in
      feeds t k l at p piece time
      (hungry_says t k l (grown p xs) (length piece) c (fits_waiting k.phase (grown p xs) w (omega arith)))
      (grown-padded p size xs (omega arith) (omega arith))
      (λ b. part-waits time s piece at b (n - p.filled) calm (grown_makes p size xs (omega arith) s (omega arith)) m e)

  -- ## A busid, from a place of the piece on

  module _ (at : ℕ) (p : Progress) (size : length p.head ≡ Codes.HEADER-LEN) (m : at ≤ length piece)
      (h : Codes.OP-LEN ≤ p.filled) (o : p.filled < Codes.OP-LEN + Codes.BUSID-LEN) where
    abbrev need : ℕ
    need = Codes.OP-LEN + Codes.BUSID-LEN - p.filled

    abbrev busid : List ℕ
    busid = take need (drop at piece)

    abbrev named : Progress
    named = grown p busid

    abbrev naming : Sess
    naming = during s (message_of named)

    -- all that is missing of it: the import ends
    module _ (i : need ≤ length piece - at) where
      named_filled : p.filled + length busid ≡ Codes.OP-LEN + Codes.BUSID-LEN
      named_filled = omega (arith, part_length piece at need (omega arith))

      named_in : message_of named ≡ partly (came p ++ busid)
      named_in = message-grown p size busid (omega (arith, named_filled)) (omega (arith, named_filled))

      found : looked_up naming ≡ find_in t (busid_of named.head)
      unfolding looked_up
      found = rw (named_in, busid_front p size busid (omega (arith, named_filled)) (omega (arith, named_filled)))

      judge_40 : judge time naming ≡ imports (find_in t (busid_of named.head))
      judge_40 =
          at_40 time naming (came p ++ busid) w named_in (grown-length p size busid (omega (arith, named_filled)) ∙ named_filled) ∙ ap imports found

      named_says : (x : Event) → judge time naming ≡ x → is_hungry x ≡ false
          → (b : Buffers) → fed_from time at (during s (message_of p)) b (drop at piece) ≡ result_at naming b (at + need) x
      named_says x j y b =
          part_says time s piece at b need (busid_calm p size s w h o) (grown_makes p size busid (omega (arith, named_filled)) s (omega (arith, named_filled)))
          (at + need) refl (omega arith) x (omega arith) j y

      lookup_feeds : Fed at p (lookup_plan t k l.count named.head (at + need))
      lookup_feeds = by (find_in t (busid_of named.head)) found judge_40
        where
          by : (f : Maybe ℕ) → looked_up naming ≡ f → judge time naming ≡ imports f → Fed at p (imported_plan t k l.count f (at + need))
          by (Some i) g j =
              feeds t k l at p piece time (import_says t k l (message_of named) i (at + need) c g ds)
              (λ _. import-padded k l.count i (devid_in t i) (at + need)) (named_says (import 0) j refl)
          by None g j =
              feeds t k l at p piece time (unknown_says t k l (message_of named) (at + need) c g)
              (λ _. unknown_padded k l.count (at + need)) (named_says (import 1) j refl)

    busid-feeds : Fed at p (busid_plan t k l.count p piece at)
    busid-feeds = by (ltb (length piece - at) need) refl
      where
        by : (e : Bool) → ltb (length piece - at) need ≡ e
            → Fed at p
            (cond e (silent_plan (hungry_plan k l.count (grown p (drop at piece)) (length piece)))
            (lookup_plan t k l.count named.head (at + need)))
        by true e = wait_feeds at p (Codes.OP-LEN + Codes.BUSID-LEN) size m o (omega arith) (busid_calm p size s w h o) (ltb-true _ _ e)
        by false e = lookup_feeds (ltb-false _ _ e)

  -- ## A request's first 8 bytes

  module _ (size : length k.progress.head ≡ Codes.HEADER-LEN) (h : k.progress.filled < Codes.OP-LEN) where
    abbrev p : Progress
    p = k.progress

    abbrev end : ℕ
    end = Codes.OP-LEN - p.filled

    abbrev xs : List ℕ
    xs = take end piece

    abbrev q : Progress
    q = grown p xs

    abbrev d : Sess
    d = during s (message_of q)

    abbrev request : Request
    request = request_of q.head

    -- what it is by them
    abbrev plan : RequestPlan
    plan =
        decide (first (request_tests request)) (λ f. silent_plan (broken_plan k l.count f end))
        (cond (eqb request.code Codes.OP-REQ-DEVLIST) (list_plan k l.count end) (busid_plan t k l.count q piece end))

    -- all that is missing of them
    module _ (m : end ≤ length piece) where
      filled : p.filled + length xs ≡ Codes.OP-LEN
      filled = omega (arith, part_length piece 0 end (omega arith))

      fit : p.filled + length xs ≤ Codes.HEADER-LEN
      fit = omega (arith, filled)

      made : Makes s (message_of p) xs (message_of q) unplaced
      made = grown_makes p size xs fit s (omega (arith, filled))

      read : request_of (came p ++ xs) ≡ request
      read = request_front p size xs fit (omega (arith, filled))

      tests_read : first (request_tests (request_of (came p ++ xs))) ≡ first (request_tests request)
      tests_read = ap (λ (r : Request). first (request_tests r)) read

      code_read : (request_of (came p ++ xs)).code ≡ request.code
      code_read = ap (λ (r : Request). r.code) read

      judge_8 : judge time d ≡ requested d (came p ++ xs)
      judge_8 = at_8 time d (came p ++ xs) w (message-grown p size xs fit (omega (arith, filled))) (grown-length p size xs fit ∙ filled)

      said : (x : Event) → requested d (came p ++ xs) ≡ x → is_hungry x ≡ false
          → (b : Buffers) → fed_from time 0 (during s (message_of p)) b piece ≡ result_at d b end x
      said x j y b = part_says time s piece 0 b end (request_calm p size s w h) made end (omega arith) m x (omega arith) (judge_8 ∙ j) y

      follows : requested d (came p ++ xs) ≡ hungry → (b : Buffers) → fed_from time 0 (during s (message_of p)) b piece ≡ fed_from time end d b (drop end piece)
      follows j b = part_goes_on time s piece 0 b end (request_calm p size s w h) made end (omega arith) m (judge_8 ∙ j)

      breaks-feeds : (f : Fault) → first (request_tests request) ≡ some f → Fed 0 p (silent_plan (broken_plan k l.count f end))
      breaks-feeds f e =
          feeds t k l 0 p piece time (broken_says t k l (message_of q) f end c v z) (λ _. broken-padded k l.count f end)
          (said (breaks d f) (request_bad d (came p ++ xs) f (tests_read ∙ e)) refl)

      module _ (f : first (request_tests request) ≡ none) where
        list-feeds : request.code ≡ Codes.OP-REQ-DEVLIST → Fed 0 p (list_plan k l.count end)
        list-feeds e =
            feeds t k l 0 p piece time (list_says t k l (message_of q) end c) (λ _. list-padded k l.count end)
            (said list (request-list d (came p ++ xs) (tests_read ∙ f) (code_read ∙ e)) refl)

        import-feeds : (request.code ≡ Codes.OP-REQ-DEVLIST → ⊥) → Fed 0 p (busid_plan t k l.count q piece end)
        import-feeds e =
            feeds_on t k l 0 p piece time end q
            (busid-feeds end q (grown-size p size xs fit) m (omega (arith, filled)) (omega (arith, filled)))
            (grown-padded p size xs fit (omega (arith, filled)))
            (follows (request-import d (came p ++ xs) (tests_read ∙ f) (λ x. e (sym code_read ∙ x))))

      whole-feeds : Fed 0 p plan
      whole-feeds =
          by_first (Fed 0 p) (first (request_tests request)) breaks-feeds (λ f. by f (eqb request.code Codes.OP-REQ-DEVLIST) refl)
        where
          by : first (request_tests request) ≡ none → (e : Bool) → eqb request.code Codes.OP-REQ-DEVLIST ≡ e
              → Fed 0 p (cond e (list_plan k l.count end) (busid_plan t k l.count q piece end))
          by f true e = list-feeds f (eqb-true _ _ e)
          by f false e = import-feeds f (eqb-false _ _ e)

    head-feeds : Fed 0 p (head_plan t k l.count piece)
    head-feeds = by (ltb (length piece) end) refl
      where
        by : (e : Bool) → ltb (length piece) end ≡ e
            → Fed 0 p (cond e (silent_plan (hungry_plan k l.count (grown p piece) (length piece))) plan)
        by true e =
            let y = ltb-true (length piece) end e in
            wait_feeds 0 p Codes.OP-LEN size (omega arith) h (omega arith) (request_calm p size s w h) (omega arith)
        by false e = whole-feeds (ltb-false _ _ e)

  -- ## The whole piece

  pub waiting_feeds : length k.progress.head ≡ Codes.HEADER-LEN → k.progress.filled < Codes.OP-LEN + Codes.BUSID-LEN
      → Fed 0 k.progress (waiting_plan t k l.count piece)
  waiting_feeds size o = by (ltb k.progress.filled Codes.OP-LEN) refl
    where
      by : (e : Bool) → ltb k.progress.filled Codes.OP-LEN ≡ e
          → Fed 0 k.progress (cond e (head_plan t k l.count piece) (busid_plan t k l.count k.progress piece 0))
      by true e = head-feeds size (ltb-true _ _ e)
      by false e = busid-feeds 0 k.progress size (omega arith) (ltb-false _ _ e) o
