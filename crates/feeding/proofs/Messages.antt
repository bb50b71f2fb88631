-- The plan for a message.
use Prim.Native.Nat.{ℕ, ◌+◌, ◌-◌, ◌≤◌, ◌<◌}
use native.Mathlib.Omega.{arith}
use mathlib.Core.Path.{◌≡◌, refl, sym, ap, subst, ◌∙◌}
use mathlib.Core.Bool.{Bool, true, false, cond}
use mathlib.Core.List.{List, [], ◌++◌}
use mathlib.Core.Option.{none, some}
use lib.Dec.{eqb, leb, ltb}
use lib.ListN.{length, take, drop, length-drop}
use lib.Seq.{take_all}
use borrow.Author.Tests.{eqb-true, eqb-false, ltb-true, ltb-false, eq-eqb, ne_eqb, lt-ltb, le-ltb, lt-leb, le-leb}
use Rattle.wire.specs.Codes
use Rattle.messages.specs.Messages.{data_len, body_len, unlink_seqnum}
use Rattle.messages.specs.declared.message.Header.{Header}
use Rattle.exports.specs.declared.device.Table.{Table}
use Rattle.std.specs.Prelude.{Option as Maybe, Some, None as NoKey, is_some}
use Rattle.pending.specs.Looks.{look_by}
use Rattle.pending.specs.Pending.{seqnum_of, find_by, found, list_of, Whole}
use Rattle.pending.specs.declared.list.Pending.{Pending}
use Rattle.pending.specs.declared.look.Key.TheVariants.{Seqnum}
use Rattle.pending.specs.declared.look.Look.{Look}
use Rattle.pending.specs.declared.urb.Urb.{Urb}
use Rattle.pending.proofs.Finding.{look_found}
use Rattle.limits.specs.Limits
use Rattle.ground.specs.Rows.{Clear}
use Rattle.ground.specs.Tests.{first, by_first}
use Rattle.verdicts.specs.Verdicts
use Rattle.verdicts.specs.declared.verdict.Fault.{Fault}
use Rattle.ground.proofs.Cases.{by_cond, second}
use Rattle.verdicts.proofs.Tables.{iff_refl, header_match}
use Rattle.model.specs.State.{Message, headed, Sess}
use Rattle.model.specs.Answers.{Event, hungry, is_hungry}
use Rattle.model.specs.Judging.{judge, whole_header, submitted, breaks, header_tests_of}
use Rattle.model.specs.Acts.{Buffers}
use Rattle.model.proofs.Packets.{iso-most}
use Rattle.links.specs.Links.{Parts, whole, descriptors_in, message_of, during, attached_fits, Attached, no_descriptors}
use Rattle.links.specs.declared.link.Link.{Link}
use Rattle.links.specs.declared.link.Progress.{Progress}
use Rattle.links.proofs.Fits.{body_known, fits-header, fits_body}
use Rattle.links.proofs.Views.{message-headed}
use Rattle.events.specs.Plans.{hungry_plan, broken_plan, submitted_plan, unlinked_plan, with_body, reply_bytes}
use Rattle.events.specs.declared.plan.Plan.{Plan}
use Rattle.events.proofs.Saying.{result_at, hungry_says, broken_says, broken-padded, submitted_says, submitted_alike, submitted-padded, unlinked_says}
use Rattle.events.proofs.Saying.{unlinked_padded}
use Rattle.feeding.specs.Asking.{grown, read_from, key_for, ask_of, look_asked}
use Rattle.feeding.specs.Planning.{further_on, body_plan, submit_plan, header_plan, attached_plan}
use Rattle.feeding.specs.declared.ask.Asked.{Asked}
use Rattle.feeding.proofs.Stages.{Calm, fed_from, Makes, unplaced, placed_at, makes_body, part_length, part-waits, part_says, part_goes_on}
use Rattle.feeding.proofs.Moments.{at_48, at_body, calm_body, header_bad, header-unlink, header-whole, header_body, submit-said, unlink-said}
use Rattle.feeding.proofs.Headers.{grown-padded, grown_makes, read_makes, header_calm}
use Rattle.feeding.proofs.Bodies.{none-size, message_begun, begun_padded, no_packets, further_padded, further_makes, further_packets}
use Rattle.feeding.proofs.Pieces.{Feeds, feeds, feeds_body, feeds_on}

-- ## A header's tests

-- what was looked up serves them: only of a submit do they ask whether a seqnum is pending
header-tests : (h : Header) (devid : ℕ) (us : List Urb) → header_tests_of h devid us ≡ Verdicts.header_tests h devid (is_some (look_asked us (key_for h)))
header-tests h devid us = at (eqb h.command Codes.CMD-SUBMIT) refl
  where
    at : (c : Bool) → eqb h.command Codes.CMD-SUBMIT ≡ c → header_tests_of h devid us ≡ Verdicts.header_tests h devid (is_some (look_asked us (key_for h)))
    at true e = rw (e, look_found seqnum_of h.transfer.seqnum us)
    at false e = rw e

module _ (h : Header) (devid : ℕ) (us : List Urb) (f : first (header_tests_of h devid us) ≡ none) where
  passed : Clear (Verdicts.header_rows h devid (found (find_by seqnum_of h.transfer.seqnum us) ≡ true) (ltb h.dirty Codes.HEADER-LEN ≡ true))
  passed =
      let taken = found (find_by seqnum_of h.transfer.seqnum us) in
      (header_match h devid taken (taken ≡ true) (ltb h.dirty Codes.HEADER-LEN ≡ true) iff_refl iff_refl).1 f

  -- what passed and is no submit is an unlink, and asks for the seqnum that it names
  unlink_key : (h.command ≡ Codes.CMD-SUBMIT → ⊥) → key_for h ≡ Some (Seqnum (unlink_seqnum h))
  unlink_key n =
      let e = second h.command Codes.CMD-SUBMIT Codes.CMD-UNLINK passed.0 n in
      rw (ne_eqb h.command Codes.CMD-SUBMIT n, eq-eqb h.command Codes.CMD-UNLINK e)

  -- the data of a submit that passed is short
  short-data : h.command ≡ Codes.CMD-SUBMIT → data_len h ≤ Limits.MAX-TRANSFER
  short-data e = at (eqb h.transfer.direction Codes.DIR-OUT) (λ l. passed.1.1.0 (e, l))
    where
      at : (o : Bool) → (Limits.MAX-TRANSFER < h.transfer.length → ⊥) → cond o h.transfer.length 0 ≤ Limits.MAX-TRANSFER
      at true n = omega arith
      at false n = omega arith

-- ## What a piece asks, by where the message stands

module _ (k : Link) (piece : List ℕ) where
  abbrev missing : ℕ
  missing = Codes.HEADER-LEN - k.progress.filled

  ask_nothing : Codes.HEADER-LEN ≤ k.progress.filled → ask_of k piece ≡ record { progress = k.progress; consumed = 0; read = false; key = NoKey }
  unfolding ask_of
  ask_nothing h = rw (le-leb Codes.HEADER-LEN k.progress.filled h)

  module _ (h : k.progress.filled < Codes.HEADER-LEN) where
    ask_part : length piece < missing
        → ask_of k piece ≡ record { progress = grown k.progress piece; consumed = length piece; read = false; key = NoKey }
    unfolding ask_of
    ask_part l = rw (lt-leb Codes.HEADER-LEN k.progress.filled h, lt-ltb (length piece) missing l)

    ask_whole : missing ≤ length piece → let q = read_from (grown k.progress (take missing piece)) in
        ask_of k piece ≡ record { progress = q; consumed = missing; read = true; key = key_for q.header }
    unfolding ask_of
    ask_whole l = rw (lt-leb Codes.HEADER-LEN k.progress.filled h, le-ltb (length piece) missing l)

  -- it takes no more of the piece than there is
  pub ask_inside : (ask_of k piece).consumed ≤ length piece
  unfolding ask_of
  ask_inside =
      by_cond (λ (a : Asked). a.consumed ≤ length piece) (leb Codes.HEADER-LEN k.progress.filled) (λ _. omega arith)
      (λ _. by_cond (λ (a : Asked). a.consumed ≤ length piece) (ltb (length piece) missing) (λ _. omega arith) (λ e. ltb-false _ _ e))

-- ## The plans

module _ (t : Table) (k : Link) (l : Pending) (a : Attached (whole t k l)) (v : Whole l) (z : k.counts.accepted ≤ Limits.LAST-TICKET)
    (piece : List ℕ) (time : ℕ) where
  abbrev s : Parts
  s = whole t k l

  abbrev Fed : ℕ → Progress → Plan → Type 0
  Fed at p r = Feeds (reply_bytes r.iso r.reply) r t k l at p piece time

  away : k.phase ≡ Limits.WAITING → ⊥
  away e = omega (arith, a.1)

  -- ### A body, from a place of the piece on

  module _ (at : ℕ) (p : Progress) (m : at ≤ length piece) (f : p.filled ≡ Codes.HEADER-LEN)
      (places : length p.descriptors ≡ Limits.DESCRIPTORS-LEN) (going : p.body < body_len p.header)
      (short : data_len p.header ≤ Limits.MAX-TRANSFER) where
    abbrev need : ℕ
    need = body_len p.header - p.body

    -- the work buffer has room for data and descriptors
    room : body_len p.header ≤ Limits.WORK-LEN
    room = omega (arith, short, iso-most p.header.transfer.packets)

    begun : message_of p ≡ headed p.header p.body (descriptors_in p)
    begun = message-headed p (omega arith)

    body_calm : Calm (during s (message_of p)) need
    body_calm = calm_body (during s (message_of p)) away p.header p.body (descriptors_in p) begun

    -- a part of it
    more-feeds : length piece - at < need
        → Fed at p (with_body p.body at (length piece) (hungry_plan k l.count (further_on p (drop at piece)) (length piece)))
    more-feeds c =
        let xs = drop at piece in
        let n : length xs ≡ length piece - at = length-drop at piece in
        let left : p.body + length xs < body_len p.header = omega arith in
        let all : take (length piece - at) xs ≡ xs = take_all (length piece - at) xs (omega arith) in
        feeds_body t k l at p piece time
        (hungry_says t k l (further_on p xs) (length piece) a.0 (fits_body k.phase (further_on p xs) a.1 f short left))
        (further_padded p f places xs (omega arith))
        p.body (length piece) (omega arith) (omega (arith, room))
        (λ b. rw all (part-waits time s piece at b need body_calm (further_makes p f places xs (omega arith) s) m c))

    -- all that is left of it
    last-feeds : need ≤ length piece - at
        → Fed at p
        (with_body p.body at (at + need)
        (submitted_plan k l.count p.header (further_on p (take need (drop at piece))).descriptors (at + need) time))
    last-feeds c =
        let h = p.header in
        let xs = take need (drop at piece) in
        let n : length xs ≡ need = part_length piece at need (omega arith) in
        let e : p.body + length xs ≡ body_len h = omega arith in
        let o : at + need - at ≡ need = omega arith in
        let ds = descriptors_in p ++ drop (data_len h - p.body) xs in
        let d = during s (headed h (body_len h) ds) in
        let g : Makes s (message_of p) xs (headed h (body_len h) ds) (placed_at p.body xs) =
        rw begun (rw e at (makes_body s h p.body (descriptors_in p) xs)) in
        let same = submitted_alike k l.count h (further_on p xs).descriptors ds (at + need) time (further_packets p f places xs (omega arith) e) in
        subst (λ (r : Plan). Fed at p (with_body p.body at (at + need) r)) (sym same)
        (feeds_body t k l at p piece time
        (submitted_says t k l h (body_len h) ds (at + need) time a v z)
        (λ _. submitted-padded k l.count h ds (at + need) time)
        p.body (at + need) (omega arith) (omega (arith, room))
        (λ b. rw o
        (part_says time s piece at b need body_calm g (at + need) refl (omega arith) (submitted time d h ds) (omega arith)
        (at_body time d away h (body_len h) ds refl (omega arith) refl) (submit-said time d h ds))))

    body_feeds : Fed at p (body_plan k l.count p at piece time)
    body_feeds = by (ltb (length piece - at) need) refl
      where
        by : (c : Bool) → ltb (length piece - at) need ≡ c
            → Fed at p
            (cond c (with_body p.body at (length piece) (hungry_plan k l.count (further_on p (drop at piece)) (length piece)))
            (with_body p.body at (at + need)
            (submitted_plan k l.count p.header (further_on p (take need (drop at piece))).descriptors (at + need) time)))
        by true e = more-feeds (ltb-true _ _ e)
        by false e = last-feeds (ltb-false _ _ e)

  -- ### A header

  module _ (size : length k.progress.head ≡ Codes.HEADER-LEN) where
    abbrev p : Progress
    p = k.progress

    -- a part of it
    part-feeds : p.filled + length piece < Codes.HEADER-LEN → Fed 0 p (hungry_plan k l.count (grown p piece) (length piece))
    part-feeds h =
        feeds t k l 0 p piece time
        (hungry_says t k l (grown p piece) (length piece) a.0 (fits-header k.phase (grown p piece) a.1 h))
        (grown-padded p size piece (omega arith) h)
        (λ b. part-waits time s piece 0 b (missing k piece) (header_calm p size s away (omega arith))
        (grown_makes p size piece (omega arith) s h) (omega arith) (omega arith))

    -- all that is missing of it
    module _ (h : p.filled < Codes.HEADER-LEN) (m : missing k piece ≤ length piece) where
      abbrev end : ℕ
      end = missing k piece

      abbrev xs : List ℕ
      xs = take end piece

      abbrev q : Progress
      q = read_from (grown p xs)

      abbrev d : Sess
      d = during s (headed q.header 0 [])

      abbrev look : Maybe Look
      look = look_asked (list_of l) (key_for q.header)

      filled : p.filled + length xs ≡ Codes.HEADER-LEN
      filled = omega (arith, part_length piece 0 end (omega arith))

      made : Makes s (message_of p) xs (headed q.header 0 []) unplaced
      made = read_makes p size xs (omega (arith, filled)) s (omega (arith, filled)) filled

      judged : judge time d ≡ whole_header time d q.header
      judged = at_48 time d away q.header refl

      -- its last byte says something; or the body follows
      said : (e : Event) → whole_header time d q.header ≡ e → is_hungry e ≡ false
          → (b : Buffers) → fed_from time 0 (during s (message_of p)) b piece ≡ result_at d b end e
      said e j n b = part_says time s piece 0 b end (header_calm p size s away h) made end (omega arith) m e (omega arith) (judged ∙ j) n

      follows : whole_header time d q.header ≡ hungry
          → (b : Buffers) → fed_from time 0 (during s (message_of p)) b piece ≡ fed_from time end d b (drop end piece)
      follows j b = part_goes_on time s piece 0 b end (header_calm p size s away h) made end (omega arith) m (judged ∙ j)

      breaks-feeds : (f : Fault) → first (header_tests_of q.header k.devid (list_of l)) ≡ some f → Fed 0 p (broken_plan k l.count f end)
      breaks-feeds f e =
          feeds t k l 0 p piece time (broken_says t k l (headed q.header 0 []) f end a.0 v z) (λ _. broken-padded k l.count f end)
          (said (breaks d f) (header_bad time d q.header f e) refl)

      module _ (f : first (header_tests_of q.header k.devid (list_of l)) ≡ none) where
        unlink-feeds : (q.header.command ≡ Codes.CMD-SUBMIT → ⊥) → Fed 0 p (unlinked_plan k l.count q.header look end)
        unlink-feeds n =
            let u = unlink_seqnum q.header in
            rw (unlink_key q.header k.devid (list_of l) f n)
            (feeds t k l 0 p piece time (unlinked_says t k l q.header end a v z)
            (λ _. unlinked_padded k l.count q.header (look_by seqnum_of u (list_of l)) end)
            (said _ (header-unlink time d q.header f n) (unlink-said q.header.transfer.seqnum (find_by seqnum_of u (list_of l)))))

        submit-feeds : q.header.command ≡ Codes.CMD-SUBMIT → Fed 0 p (submit_plan k l.count q end piece time)
        submit-feeds e = by (eqb (body_len q.header) 0) refl
          where
            by : (c : Bool) → eqb (body_len q.header) 0 ≡ c
                → Fed 0 p (cond c (submitted_plan k l.count q.header no_descriptors end time) (body_plan k l.count q end piece time))
            by true o =
                let n = eqb-true _ _ o in
                subst (Fed 0 p) (submitted_alike k l.count q.header [] no_descriptors end time (no_packets q.header n [] no_descriptors))
                (feeds t k l 0 p piece time (submitted_says t k l q.header 0 [] end time a v z)
                (λ _. submitted-padded k l.count q.header [] end time)
                (said (submitted time d q.header []) (header-whole time d q.header f e n) (submit-said time d q.header [])))
            by false o =
                let n : body_len q.header ≡ 0 → ⊥ = eqb-false _ _ o in
                feeds_on t k l 0 p piece time end q
                (body_feeds end q m refl none-size (omega arith) (short-data q.header k.devid (list_of l) f e))
                (λ _. begun_padded q.header)
                (λ b. follows (header_body time d q.header f e (omega arith)) b
                ∙ ap (λ (x : Message). fed_from time end (during s x) b (drop end piece)) (sym (message_begun q.header)))

      header-feeds : Fed 0 p (header_plan k l.count q look end piece time)
      header-feeds =
          let e = ap first (header-tests q.header k.devid (list_of l)) in
          by_first (Fed 0 p) (first (Verdicts.header_tests q.header k.devid (is_some look)))
          (λ f y. breaks-feeds f (e ∙ y)) (λ y. by (e ∙ y) (eqb q.header.command Codes.CMD-SUBMIT) refl)
        where
          by : first (header_tests_of q.header k.devid (list_of l)) ≡ none → (c : Bool) → eqb q.header.command Codes.CMD-SUBMIT ≡ c
              → Fed 0 p (cond c (submit_plan k l.count q end piece time) (unlinked_plan k l.count q.header look end))
          by f true c = submit-feeds f (eqb-true _ _ c)
          by f false c = unlink-feeds f (eqb-false _ _ c)

    -- ### The whole piece

    abbrev Planned : Asked → Type 0
    Planned o = Fed 0 p (attached_plan k l.count o (look_asked (list_of l) o.key) piece time)

    pub attached-feeds : length p.descriptors ≡ Limits.DESCRIPTORS-LEN → attached_fits p ≡ true → Planned (ask_of k piece)
    attached-feeds places f = by (ltb p.filled Codes.HEADER-LEN) refl (ltb (length piece) (missing k piece)) refl
      where
        by : (c : Bool) → ltb p.filled Codes.HEADER-LEN ≡ c → (e : Bool) → ltb (length piece) (missing k piece) ≡ e → Planned (ask_of k piece)
        by true c true e =
            let h = ltb-true p.filled Codes.HEADER-LEN c in
            let n = ltb-true (length piece) (missing k piece) e in
            let i : p.filled + length piece < Codes.HEADER-LEN = omega arith in
            rw (ask_part k piece h n, lt-ltb (p.filled + length piece) Codes.HEADER-LEN i) (part-feeds i)
        by true c false e =
            let h = ltb-true p.filled Codes.HEADER-LEN c in
            let n = ltb-false (length piece) (missing k piece) e in
            rw (ask_whole k piece h n) (header-feeds h n)
        by false c e _ =
            let h = ltb-false p.filled Codes.HEADER-LEN c in
            let n = body_known p f h in
            rw (ask_nothing k piece h, c) (body_feeds 0 p (omega arith) n.0 places n.1 n.2)
