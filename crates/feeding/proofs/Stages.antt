-- A feed in whole parts: bytes that say nothing, up to the one at which something is said.
use Prim.Native.Nat.{ℕ, zero, suc, ◌+◌, ◌-◌, ◌≤◌, ◌<◌}
use native.Mathlib.Omega.{arith}
use mathlib.Core.Path.{◌≡◌, refl, sym, ap, ◌∙◌}
use mathlib.Core.Bool.{true, false}
use mathlib.Core.List.{List, [], ◌∷◌, ◌++◌}
use lib.ListN.{length, take, drop, length-drop, take-append-drop}
use lib.Seq.{sets, take_at, drop-drop, length-take-le, take-append-add}
use Rattle.wire.specs.Codes
use Rattle.messages.specs.Messages.{header_of, data_len}
use Rattle.messages.specs.declared.message.Header.{Header}
use Rattle.model.specs.State.{Message, partly, headed, Sess}
use Rattle.model.specs.Answers.{Event, hungry, is_hungry}
use Rattle.model.specs.Judging.{grow, judge}
use Rattle.model.specs.Acts.{Buffers, put, after, reply_to, write_reply, feed_bytes, done_feed}
use Rattle.model.specs.Cut.{step_all, put_all, lent}
use Rattle.model.proofs.Cutting
use Rattle.model.proofs.Growth.{grow_in, grow-whole, grow_body, put_in, put_whole, put_body}
use Rattle.links.specs.Links.{Parts, during}
use Rattle.events.specs.Plans.{Result}
use Rattle.events.proofs.Saying.{result_at}
use Rattle.feeding.specs.Feeding.{result_of}

abbrev grows : Sess → List ℕ → Sess
grows s xs = step_all grow s xs

abbrev puts : Sess → List ℕ → Buffers → Buffers
puts s xs b = put_all grow put s xs b

-- nothing is said before the n-th byte, whatever the time
abbrev pub Calm : Sess → ℕ → Type 0
Calm s n = (time : ℕ) (ys : List ℕ) → 0 < length ys → length ys < n → is_hungry (judge time (grows s ys)) ≡ true

calm_next : (s : Sess) (x n : ℕ) → Calm s (suc n) → Calm (grow s x) n
calm_next s x n c time ys h l = c time (x ∷ ys) (omega arith) (omega arith)

-- ## Bytes

module _ (time : ℕ) where
  abbrev Quiet : Sess → List ℕ → Type 0
  Quiet s xs = Cutting.Quiet grow put (judge time) after write_reply hungry is_hungry s xs

  quiet_run : (xs : List ℕ) (n : ℕ) (s : Sess) → Calm s n → length xs < n → Quiet s xs
  quiet_run [] n s c l = tt
  quiet_run (x ∷ xs) zero s c l = absurd (omega arith)
  quiet_run (x ∷ xs) (suc n) s c l = (c time (x ∷ []) (omega arith) (omega arith), quiet_run xs n (grow s x) (calm_next s x n c) (omega arith))

  quiet_last : (xs : List ℕ) (s : Sess) → Calm s (length xs) → is_hungry (judge time (grows s xs)) ≡ true → Quiet s xs
  quiet_last [] s c h = tt
  quiet_last (x ∷ []) s c h = (h, tt)
  quiet_last (x ∷ (y ∷ xs)) s c h =
      (c time (x ∷ []) (omega arith) (omega arith), quiet_last (y ∷ xs) (grow s x) (calm_next s x (length (y ∷ xs)) c) h)

  -- the byte at which something is said
  reaches : (xs ys : List ℕ) (b : Buffers) (s : Sess) → 0 < length xs → Calm s (length xs) → is_hungry (judge time (grows s xs)) ≡ false
      → feed_bytes s b (xs ++ ys) time ≡ Cutting.saying grow put (judge time) after write_reply hungry is_hungry s b xs (judge time (grows s xs))
  reaches [] ys b s h c q = absurd (omega arith)
  reaches (x ∷ []) ys b s h c q = Cutting.ends grow put (judge time) after write_reply hungry is_hungry x ys b s q
  reaches (x ∷ (y ∷ xs)) ys b s h c q =
      Cutting.goes grow put (judge time) after write_reply hungry is_hungry x ((y ∷ xs) ++ ys) b s (c time (x ∷ []) (omega arith) (omega arith))
      ∙ ap (Cutting.more grow put (judge time) after write_reply hungry is_hungry)
      (reaches (y ∷ xs) ys (put s x b) (grow s x) (omega arith) (calm_next s x (length (y ∷ xs)) c) q)

grows-append : (xs ys : List ℕ) (s : Sess) → grows s (xs ++ ys) ≡ grows (grows s xs) ys
grows-append [] ys s = refl
grows-append (x ∷ xs) ys s = grows-append xs ys (grow s x)

-- ## The whole answer

-- the same with another count of bytes consumed
abbrev pub consuming : ℕ → Result → Result
consuming n r =
    record {
      event = r.event;
      setup = r.setup;
      iso = r.iso;
      dropped = r.dropped;
      consumed = n;
      length = r.length;
      buffers = r.buffers;
      next = r.next;
    }

-- what a feed of a session that isn't closed answers and leaves, with a time, where so many bytes of the piece were consumed before
unfoldable pub fed_from : ℕ → ℕ → Sess → Buffers → List ℕ → Result
fed_from time before s b piece = let r = result_of s piece (done_feed (feed_bytes s b piece time)) in consuming (before + r.consumed) r

module _ (time at : ℕ) (s : Sess) (b : Buffers) where
  -- all of it says nothing
  waits : (xs : List ℕ) (n : ℕ) → Calm s n → length xs < n → fed_from time at s b xs ≡ result_at (grows s xs) (puts s xs b) (at + length xs) hungry
  unfolding fed_from result_at write_reply reply_to
  waits xs n c l = rw (Cutting.skip_all grow put (judge time) after write_reply hungry is_hungry xs b s (quiet_run time xs n s c l))

  -- the last byte of xs says something
  says : (xs ys : List ℕ) → 0 < length xs → Calm s (length xs) → is_hungry (judge time (grows s xs)) ≡ false
      → fed_from time at s b (xs ++ ys) ≡ result_at (grows s xs) (puts s xs b) (at + length xs) (judge time (grows s xs))
  unfolding fed_from result_at
  says xs ys h c q = rw (reaches time xs ys b s h c q, take_at xs ys (length xs) refl)

  -- xs says nothing, and the rest goes on
  goes_on : (xs ys : List ℕ) → Calm s (length xs) → is_hungry (judge time (grows s xs)) ≡ true
      → fed_from time at s b (xs ++ ys) ≡ fed_from time (at + length xs) (grows s xs) (puts s xs b) ys
  unfolding fed_from
  goes_on xs ys c q =
      let r = feed_bytes (grows s xs) (puts s xs b) ys time in
      rw (
        Cutting.skip grow put (judge time) after write_reply hungry is_hungry xs ys b s (quiet_last time xs s c q),
        take-append-add xs ys r.consumed,
        grows-append xs (take r.consumed ys) s,
      )
      (ap (λ (n : ℕ). consuming n (result_of (grows s xs) ys (done_feed r))) (omega arith))

-- ## A message in progress

-- what these bytes make of a message in progress, and of the buffers
pub record Makes (s : Parts) (m : Message) (xs : List ℕ) (m' : Message) (to : Buffers → Buffers) : Type 0 where
  pub grown : grows (during s m) xs ≡ during s m'
  pub placed : (b : Buffers) → puts (during s m) xs b ≡ to b

-- bytes of a header go to no buffer, those of a body to the work buffer
abbrev pub unplaced : Buffers → Buffers
unplaced b = b

abbrev pub placed_at : ℕ → List ℕ → Buffers → Buffers
placed_at n xs b = lent (sets b.work n xs) b.reply

module _ (s : Parts) (bytes xs : List ℕ) where
  -- a part of the header; what was missing of it
  pub makes_more : length bytes + length xs < Codes.HEADER-LEN → Makes s (partly bytes) xs (partly (bytes ++ xs)) unplaced
  makes_more l =
      let d = during s (partly bytes) in
      record { grown = grow_in bytes xs d refl l; placed = λ b. put_in bytes xs d b refl l }

  pub makes_header : 0 < length xs → length bytes + length xs ≡ Codes.HEADER-LEN
      → Makes s (partly bytes) xs (headed (header_of (bytes ++ xs)) 0 []) unplaced
  makes_header p e =
      let d = during s (partly bytes) in
      record { grown = grow-whole bytes xs d refl p e; placed = λ b. put_whole bytes xs d b refl p e }

-- a part of the body
pub makes_body : (s : Parts) (h : Header) (n : ℕ) (ds xs : List ℕ)
    → Makes s (headed h n ds) xs (headed h (n + length xs) (ds ++ drop (data_len h - n) xs)) (placed_at n xs)
makes_body s h n ds xs =
    let d = during s (headed h n ds) in
    record { grown = grow_body h n ds xs d refl; placed = λ b. put_body h n ds xs d b refl }

-- ## A part of the piece

pub part_length : (piece : List ℕ) (at n : ℕ) → at + n ≤ length piece → length (take n (drop at piece)) ≡ n
part_length piece at n h = length-take-le n (drop at piece) (rw length-drop (omega arith))

parts : (piece : List ℕ) (at n : ℕ) → take n (drop at piece) ++ drop (at + n) piece ≡ drop at piece
parts piece at n = ap (λ (ys : List ℕ). take n (drop at piece) ++ ys) (sym (drop-drop n at piece)) ∙ take-append-drop n (drop at piece)

module _ (time : ℕ) (s : Parts) {m m' : Message} {to : Buffers → Buffers} (piece : List ℕ) (at : ℕ) (b : Buffers) (n : ℕ)
    (c : Calm (during s m) n) where
  -- all that is left says nothing
  pub part-waits : Makes s m (drop at piece) m' to → at ≤ length piece → length piece - at < n
      → fed_from time at (during s m) b (drop at piece) ≡ result_at (during s m') (to b) (length piece) hungry
  part-waits g h l =
      let e : length (drop at piece) ≡ length piece - at = length-drop at piece in
      let u : at + length (drop at piece) ≡ length piece = omega arith in
      waits time at (during s m) b (drop at piece) n c (omega arith) ∙ rw (g.grown, g.placed b, u)

  module _ (g : Makes s m (take n (drop at piece)) m' to) (end : ℕ) (u : at + n ≡ end) (h : end ≤ length piece) where
    abbrev xs : List ℕ
    xs = take n (drop at piece)

    count : length xs ≡ n
    count = part_length piece at n (omega arith)

    split : xs ++ drop end piece ≡ drop at piece
    split = rw (← u) (parts piece at n)

    -- the n-th byte says something
    pub part_says : (e : Event) → 0 < n → judge time (during s m') ≡ e → is_hungry e ≡ false
        → fed_from time at (during s m) b (drop at piece) ≡ result_at (during s m') (to b) end e
    part_says e l j q =
        let k : judge time (grows (during s m) xs) ≡ e = ap (judge time) g.grown ∙ j in
        ap (fed_from time at (during s m) b) (sym split)
        ∙ says time at (during s m) b xs (drop end piece) (omega (arith, count)) (rw count c) (ap is_hungry k ∙ q)
        ∙ rw (k, g.grown, g.placed b, count, u)

    -- it says nothing, and the rest goes on
    pub part_goes_on : judge time (during s m') ≡ hungry
        → fed_from time at (during s m) b (drop at piece) ≡ fed_from time end (during s m') (to b) (drop end piece)
    part_goes_on j =
        ap (fed_from time at (during s m) b) (sym split)
        ∙ goes_on time at (during s m) b xs (drop end piece) (rw count c) (ap is_hungry (ap (judge time) g.grown ∙ j))
        ∙ rw (g.grown, g.placed b, count, u)
