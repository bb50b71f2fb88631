-- A header that grows, as the code keeps it.
use Prim.Native.Nat.{ℕ, ◌+◌, ◌-◌, ◌≤◌, ◌<◌}
use native.Mathlib.Omega.{arith}
use mathlib.Core.Path.{◌≡◌, sym, ap, ◌∙◌}
use mathlib.Core.List.{List, [], ◌++◌, append-nil}
use lib.ListN.{length, take, drop, drop_of_length-le}
use lib.Seq.{length-take-le}
use Rattle.wire.specs.Codes
use Rattle.messages.specs.Messages.{request_of, busid_of, header_of}
use Rattle.messages.proofs.Headers.{request_stays}
use Rattle.limits.specs.Limits
use Rattle.model.specs.State.{partly, headed}
use Rattle.ground.proofs.Lists.{part_stays}
use Rattle.links.specs.Links.{Parts, message_of, during, Padded}
use Rattle.links.specs.declared.link.Progress.{Progress}
use Rattle.links.proofs.Views.{message-partly}
use Rattle.feeding.specs.Asking.{grown}
use Rattle.feeding.proofs.Behind.{front_length, filled_parts, filled_front, filled_length, filled_rest}
use Rattle.feeding.proofs.Stages.{Calm, Makes, unplaced, makes_more, makes_header}
use Rattle.feeding.proofs.Moments.{calm_8, calm_40, calm_48}

-- the bytes that came
abbrev pub came : Progress → List ℕ
came p = take p.filled p.head

module _ (p : Progress) (size : length p.head ≡ Codes.HEADER-LEN) where
  came_length : p.filled ≤ Codes.HEADER-LEN → length (came p) ≡ p.filled
  came_length h = length-take-le p.filled p.head (omega arith)

  module _ (xs : List ℕ) (fit : p.filled + length xs ≤ Codes.HEADER-LEN) where
    fit_head : p.filled + length xs ≤ length p.head
    fit_head = omega arith

    pub grown-length : length (came p ++ xs) ≡ p.filled + length xs
    grown-length = front_length p.filled p.head xs fit_head

    grown-head : (grown p xs).head ≡ (came p ++ xs) ++ drop (p.filled + length xs) p.head
    grown-head = filled_parts p.filled p.head xs fit_head

    pub grown-size : length (grown p xs).head ≡ Codes.HEADER-LEN
    grown-size = filled_length p.filled p.head xs fit_head ∙ size

    -- zeros stay behind
    pub grown-padded : p.filled + length xs < Codes.HEADER-LEN → Padded p → Padded (grown p xs)
    grown-padded l z =
        let g = z.grows (omega arith) in
        record {
          size = grown-size;
          fits = fit;
          grows = λ _. (filled_rest p.filled p.head xs fit_head Codes.HEADER-LEN g.0, g.1, g.2);
          read = λ e. absurd (omega arith);
          places = z.places;
          behind = z.behind;
        }

    -- what stands in the bytes that came, those behind don't change
    pub request_front : Codes.OP-LEN ≤ p.filled + length xs → request_of (came p ++ xs) ≡ request_of (grown p xs).head
    request_front h =
        let rest = drop (p.filled + length xs) p.head in
        sym (request_stays (came p ++ xs) rest (rw grown-length (omega arith))) ∙ ap request_of (sym grown-head)

    pub busid_front : Codes.OP-LEN + Codes.BUSID-LEN ≤ p.filled + length xs → busid_of (came p ++ xs) ≡ busid_of (grown p xs).head
    busid_front h =
        let rest = drop (p.filled + length xs) p.head in
        sym (part_stays Codes.BUSID-LEN Codes.OP-LEN (came p ++ xs) rest (rw grown-length (omega arith))) ∙ ap busid_of (sym grown-head)

    header_front : p.filled + length xs ≡ Codes.HEADER-LEN → came p ++ xs ≡ (grown p xs).head
    header_front e =
        sym (append-nil (came p ++ xs))
        ∙ ap (λ (ys : List ℕ). (came p ++ xs) ++ ys) (sym (drop_of_length-le p.head {i = p.filled + length xs} (omega arith)))
        ∙ sym grown-head

    -- ## What the bytes make of the message

    pub message-grown : p.filled + length xs < Codes.HEADER-LEN → message_of (grown p xs) ≡ partly (came p ++ xs)
    message-grown l = message-partly (grown p xs) l ∙ ap partly (filled_front p.filled p.head xs fit_head)

    module _ (s : Parts) where
      pub grown_makes : p.filled + length xs < Codes.HEADER-LEN → Makes s (message_of p) xs (message_of (grown p xs)) unplaced
      grown_makes l =
          rw (message-partly p (omega arith), message-grown l)
          (makes_more s (came p) xs (rw (came_length (omega arith)) l))

      pub read_makes : 0 < length xs → p.filled + length xs ≡ Codes.HEADER-LEN
          → Makes s (message_of p) xs (headed (header_of (grown p xs).head) 0 []) unplaced
      read_makes l e =
          rw (message-partly p (omega arith), ← header_front e) (makes_header s (came p) xs l (rw (came_length (omega arith)) e))

  -- ## Before which byte nothing is said

  module _ (s : Parts) where
    pub request_calm : s.link.phase ≡ Limits.WAITING → p.filled < Codes.OP-LEN → Calm (during s (message_of p)) (Codes.OP-LEN - p.filled)
    request_calm w l =
        rw (came_length (omega arith)) at (calm_8 (during s (message_of p)) (came p) w (message-partly p (omega arith)))

    pub busid_calm : s.link.phase ≡ Limits.WAITING → Codes.OP-LEN ≤ p.filled → p.filled < Codes.OP-LEN + Codes.BUSID-LEN
        → Calm (during s (message_of p)) (Codes.OP-LEN + Codes.BUSID-LEN - p.filled)
    busid_calm w k l =
        rw (came_length (omega arith))
        at (calm_40 (during s (message_of p)) (came p) w (message-partly p (omega arith)) (rw (came_length (omega arith)) k))

    pub header_calm : (s.link.phase ≡ Limits.WAITING → ⊥) → p.filled < Codes.HEADER-LEN
        → Calm (during s (message_of p)) (Codes.HEADER-LEN - p.filled)
    header_calm w l =
        rw (came_length (omega arith)) at (calm_48 (during s (message_of p)) w (came p) (message-partly p l))
