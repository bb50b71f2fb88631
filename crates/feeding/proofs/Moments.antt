-- At which byte of a message what is said.
use Prim.Native.Nat.{ℕ, ◌+◌, ◌-◌, ◌≤◌, ◌<◌}
use native.Mathlib.Omega.{arith}
use mathlib.Core.Path.{◌≡◌, refl, ap, ◌∙◌}
use mathlib.Core.Bool.{false}
use mathlib.Core.List.{List, [], ◌++◌}
use mathlib.Core.Option.{Option, none, some}
use lib.ListN.{length, drop, length-append}
use borrow.Author.Tests.{lt-ltb, le-ltb, eq-eqb, ne_eqb}
use Rattle.wire.specs.Codes
use Rattle.messages.specs.Messages.{request_of, data_len, body_len, unlink_seqnum}
use Rattle.messages.specs.declared.message.Header.{Header}
use Rattle.pending.specs.Pending.{seqnum_of, find_by}
use Rattle.pending.specs.declared.urb.Urb.{Urb}
use Rattle.limits.specs.Limits
use Rattle.ground.specs.Tests.{first, decide, by_first, pick}
use Rattle.verdicts.specs.Verdicts.{request_tests}
use Rattle.verdicts.specs.declared.verdict.Fault.{Fault}
use Rattle.model.specs.State.{partly, headed, Sess}
use Rattle.model.specs.Answers.{hungry, list, is_hungry}
use Rattle.model.specs.Judging.{judge, request, requested, message, whole_header, submitting, submitted, looked_up, imports, unlinks, breaks, header_tests_of}
use Rattle.model.specs.Judging.{submit_tests_of}
use Rattle.model.proofs.Growth.{holding, grow_in, grow_body}
use Rattle.feeding.proofs.Stages.{Calm}

-- ## A request

module _ (time : ℕ) (s : Sess) (m : List ℕ) (w : s.link.phase ≡ Limits.WAITING) (i : s.link.message ≡ partly m) where
  wait_8 : length m < Codes.OP-LEN → judge time s ≡ hungry
  unfolding judge request pick
  wait_8 h = rw (w, i, lt-ltb (length m) Codes.OP-LEN h)

  wait_40 : Codes.OP-LEN < length m → length m < Codes.OP-LEN + Codes.BUSID-LEN → judge time s ≡ hungry
  unfolding judge request pick
  wait_40 h l =
      rw (
        w,
        i,
        le-ltb (length m) Codes.OP-LEN (omega arith),
        ne_eqb (length m) Codes.OP-LEN (λ e. omega arith),
        lt-ltb (length m) (Codes.OP-LEN + Codes.BUSID-LEN) l,
      )

  pub at_8 : length m ≡ Codes.OP-LEN → judge time s ≡ requested s m
  unfolding judge request pick
  at_8 h = rw (w, i, h)

  pub at_40 : length m ≡ Codes.OP-LEN + Codes.BUSID-LEN → judge time s ≡ imports (looked_up s)
  unfolding judge request pick
  at_40 h = rw (w, i, h)

-- before the 8th byte, and between it and the 40th
module _ (s : Sess) (m : List ℕ) (w : s.link.phase ≡ Limits.WAITING) (i : s.link.message ≡ partly m) where
  pub calm_8 : Calm s (Codes.OP-LEN - length m)
  calm_8 time ys h l =
      ap (λ (t : Sess). is_hungry (judge time t)) (grow_in m ys s i (omega arith))
      ∙ ap is_hungry (wait_8 time (holding s (partly (m ++ ys))) (m ++ ys) w refl (rw length-append (omega arith)))

  pub calm_40 : Codes.OP-LEN ≤ length m → Calm s (Codes.OP-LEN + Codes.BUSID-LEN - length m)
  calm_40 k time ys h l =
      ap (λ (t : Sess). is_hungry (judge time t)) (grow_in m ys s i (omega arith))
      ∙ ap is_hungry (wait_40 time (holding s (partly (m ++ ys))) (m ++ ys) w refl (rw length-append (omega arith)) (rw length-append (omega arith)))

module _ (s : Sess) (m : List ℕ) where
  pub request_bad : (f : Fault) → first (request_tests (request_of m)) ≡ some f → requested s m ≡ breaks s f
  unfolding requested decide
  request_bad f e = rw e

  module _ (f : first (request_tests (request_of m)) ≡ none) where
    pub request-list : (request_of m).code ≡ Codes.OP-REQ-DEVLIST → requested s m ≡ list
    unfolding requested decide pick
    request-list e = rw (f, eq-eqb (request_of m).code Codes.OP-REQ-DEVLIST e)

    pub request-import : ((request_of m).code ≡ Codes.OP-REQ-DEVLIST → ⊥) → requested s m ≡ hungry
    unfolding requested decide pick
    request-import e = rw (f, ne_eqb (request_of m).code Codes.OP-REQ-DEVLIST e)

-- ## A message

module _ (time : ℕ) (s : Sess) (w : s.link.phase ≡ Limits.WAITING → ⊥) where
  wait_48 : (m : List ℕ) → s.link.message ≡ partly m → judge time s ≡ hungry
  unfolding judge message pick
  wait_48 m i = rw (ne_eqb s.link.phase Limits.WAITING w, i)

  pub at_48 : (h : Header) → s.link.message ≡ headed h 0 [] → judge time s ≡ whole_header time s h
  unfolding judge message pick
  at_48 h i = rw (ne_eqb s.link.phase Limits.WAITING w, i)

  module _ (h : Header) (n : ℕ) (ds : List ℕ) (i : s.link.message ≡ headed h n ds) (p : 0 < n) where
    judge_body : judge time s ≡ submitting time s h n ds
    unfolding judge message pick
    judge_body = rw (ne_eqb s.link.phase Limits.WAITING w, i, ne_eqb n 0 (λ e. omega arith))

    wait_body : n < body_len h → judge time s ≡ hungry
    unfolding submitting pick
    wait_body l = judge_body ∙ rw (lt-ltb n (body_len h) l)

    pub at_body : n ≡ body_len h → judge time s ≡ submitted time s h ds
    unfolding submitting pick
    at_body l = judge_body ∙ rw (le-ltb n (body_len h) (omega arith))

-- before the 48th byte, and before the last of a body
module _ (s : Sess) (w : s.link.phase ≡ Limits.WAITING → ⊥) where
  pub calm_48 : (m : List ℕ) → s.link.message ≡ partly m → Calm s (Codes.HEADER-LEN - length m)
  calm_48 m i time ys h l =
      ap (λ (t : Sess). is_hungry (judge time t)) (grow_in m ys s i (omega arith))
      ∙ ap is_hungry (wait_48 time (holding s (partly (m ++ ys))) w (m ++ ys) refl)

  pub calm_body : (h : Header) (n : ℕ) (ds : List ℕ) → s.link.message ≡ headed h n ds → Calm s (body_len h - n)
  calm_body h n ds i time ys p l =
      let es = ds ++ drop (data_len h - n) ys in
      ap (λ (t : Sess). is_hungry (judge time t)) (grow_body h n ds ys s i)
      ∙ ap is_hungry (wait_body time (holding s (headed h (n + length ys) es)) w h (n + length ys) es refl (omega arith) (omega arith))

module _ (time : ℕ) (s : Sess) (h : Header) where
  pub header_bad : (f : Fault) → first (header_tests_of h s.link.devid s.pend) ≡ some f → whole_header time s h ≡ breaks s f
  unfolding whole_header decide
  header_bad f e = rw e

  module _ (f : first (header_tests_of h s.link.devid s.pend) ≡ none) where
    pub header-unlink : (h.command ≡ Codes.CMD-SUBMIT → ⊥)
        → whole_header time s h ≡ unlinks h.transfer.seqnum (find_by seqnum_of (unlink_seqnum h) s.pend)
    unfolding whole_header decide pick
    header-unlink e = rw (f, ne_eqb h.command Codes.CMD-SUBMIT e)

    module _ (e : h.command ≡ Codes.CMD-SUBMIT) where
      header-submit : whole_header time s h ≡ submitting time s h 0 []
      unfolding whole_header decide pick
      header-submit = rw (f, eq-eqb h.command Codes.CMD-SUBMIT e)

      pub header-whole : body_len h ≡ 0 → whole_header time s h ≡ submitted time s h []
      unfolding submitting pick
      header-whole z = header-submit ∙ rw (le-ltb 0 (body_len h) (omega arith))

      pub header_body : 0 < body_len h → whole_header time s h ≡ hungry
      unfolding submitting pick
      header_body l = header-submit ∙ rw (lt-ltb 0 (body_len h) l)

  pub submit-said : (ds : List ℕ) → is_hungry (submitted time s h ds) ≡ false
  unfolding submitted
  submit-said ds = by_first (λ e. is_hungry e ≡ false) (first (submit_tests_of h ds s)) (λ _ _. refl) (λ _. refl)

pub unlink-said : (q : ℕ) (o : Option Urb) → is_hungry (unlinks q o) ≡ false
unlink-said q none = refl
unlink-said q (some u) = refl
