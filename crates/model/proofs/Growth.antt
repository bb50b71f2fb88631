-- Bytes that come to a session: the first 48 of a message make its header, the others are its body's.
use Prim.Native.Nat.{ℕ, suc, ◌+◌, ◌-◌, ◌≤◌, ◌<◌}
use native.Mathlib.Omega.{arith}
use mathlib.Core.Path.{◌≡◌, refl, sym, ap, ◌∙◌}
use mathlib.Core.Bool.{Bool, true, false, cond}
use mathlib.Core.List.{List, [], ◌∷◌, ◌++◌, append-nil}
use lib.Dec.{ltb}
use borrow.Author.Tests.{lt-ltb, le-ltb, ltb-true, ltb-false}
use lib.ListN.{length, drop, set, length-append, drop_of_length-le}
use lib.Seq.{sets, append_snoc, drop-nil}
use Rattle.wire.specs.Codes
use Rattle.messages.specs.Messages.{header_of, data_len}
use Rattle.messages.specs.declared.message.Header.{Header}
use Rattle.ground.specs.Tests.{pick, by_test}
use Rattle.model.specs.State.{Message, partly, headed, Sess, with_link, with_message, room, place}
use Rattle.model.specs.Judging.{grown_by, grow}
use Rattle.model.specs.Acts.{Buffers, data_put, put}
use Rattle.model.specs.Cut.{step_all, put_all, lent}

-- a session with another message in progress
abbrev pub holding : Sess → Message → Sess
holding s m = with_link (with_message m s.link) s

holding_path : (s : Sess) {m m' : Message} → m ≡ m' → holding s m ≡ holding s m'
holding_path s p = λ i. holding s (p i)

-- ## One byte

pub grow_is : (s : Sess) (x : ℕ) {m : Message} → s.link.message ≡ m → grow s x ≡ holding s (grown_by m x)
unfolding grow
grow_is s x e = holding_path s (ap (λ m. grown_by m x) e)

pub put_is : (s : Sess) (x : ℕ) (b : Buffers) {m : Message} → s.link.message ≡ m → put s x b ≡ lent (data_put m x b.work) b.reply
unfolding put
put_is s x b e = ap (λ m. lent (data_put m x b.work) b.reply) e

module _ (bytes : List ℕ) (x : ℕ) where
  -- the header takes it, and has room left or is whole
  pub grown_in : suc (length bytes) < Codes.HEADER-LEN → grown_by (partly bytes) x ≡ partly (bytes ++ (x ∷ []))
  unfolding pick
  grown_in h = rw (lt-ltb (length (bytes ++ (x ∷ []))) Codes.HEADER-LEN (rw length-append (omega arith)))

  pub grown-whole : Codes.HEADER-LEN ≤ suc (length bytes) → grown_by (partly bytes) x ≡ headed (header_of (bytes ++ (x ∷ []))) 0 []
  unfolding pick
  grown-whole h = rw (le-ltb (length (bytes ++ (x ∷ []))) Codes.HEADER-LEN (rw length-append (omega arith)))

  -- and no byte of the body is in
  pub grown-place : place (grown_by (partly bytes) x) ≡ 0
  grown-place = by_test (λ m. place m ≡ 0) (λ _. refl) (λ _. refl)

  pub grown-room : room (grown_by (partly bytes) x) ≡ Codes.HEADER-LEN - suc (length bytes)
  grown-room =
      let m = bytes ++ (x ∷ []) in
      let l : length m ≡ suc (length bytes) = rw length-append (omega arith) in
      by_test (λ m. room m ≡ Codes.HEADER-LEN - suc (length bytes))
      (λ h. omega (arith, ltb-true (length m) Codes.HEADER-LEN h)) (λ h. omega (arith, ltb-false (length m) Codes.HEADER-LEN h))

-- ## A run of bytes

-- the header has room left after them
pub grow_in : (bytes xs : List ℕ) (s : Sess) → s.link.message ≡ partly bytes → length bytes + length xs < Codes.HEADER-LEN
    → step_all grow s xs ≡ holding s (partly (bytes ++ xs))
grow_in bytes [] s e h = holding_path s (e ∙ ap partly (sym (append-nil bytes)))
grow_in bytes (x ∷ xs) s e h =
    let m = bytes ++ (x ∷ []) in
    rw (grow_is s x e, grown_in bytes x (omega arith))
    (grow_in m xs (holding s (partly m)) refl (rw length-append (omega arith)) ∙ holding_path s (ap partly (append_snoc bytes x xs)))

-- they just fill it
pub grow-whole : (bytes xs : List ℕ) (s : Sess) → s.link.message ≡ partly bytes → 0 < length xs → length bytes + length xs ≡ Codes.HEADER-LEN
    → step_all grow s xs ≡ holding s (headed (header_of (bytes ++ xs)) 0 [])
grow-whole bytes [] s e p h = absurd (omega arith)
grow-whole bytes (x ∷ []) s e p h = rw (grow_is s x e, grown-whole bytes x (omega arith))
grow-whole bytes (x ∷ y ∷ xs) s e p h =
    let m = bytes ++ (x ∷ []) in
    rw (grow_is s x e, grown_in bytes x (omega arith))
    (grow-whole m (y ∷ xs) (holding s (partly m)) refl (omega arith) (rw length-append (omega arith))
    ∙ holding_path s (ap (λ (m : List ℕ). headed (header_of m) 0 []) (append_snoc bytes x (y ∷ xs))))

-- a byte of the body is of the data, or of the descriptors, as those behind it are
kept : (size n x : ℕ) (ds xs : List ℕ) (c : Bool) → ltb n size ≡ c → cond c ds (ds ++ (x ∷ [])) ++ drop (size - suc n) xs ≡ ds ++ drop (size - n) (x ∷ xs)
kept size n x ds xs true h =
    let l = ltb-true n size h in
    let e : size - n ≡ suc (size - suc n) = omega arith in
    rw e
kept size n x ds xs false h =
    let l = ltb-false n size h in
    let e : size - n ≡ 0 = omega arith in
    let f : size - suc n ≡ 0 = omega arith in
    rw (e, f) (append_snoc ds x xs)

headed-path : (h : Header) {n m : ℕ} {ds es : List ℕ} → n ≡ m → ds ≡ es → headed h n ds ≡ headed h m es
headed-path h p q = λ i. headed h (p i) (q i)

-- it was whole before: those past the data are the descriptors'
pub grow_body : (h : Header) (n : ℕ) (ds xs : List ℕ) (s : Sess) → s.link.message ≡ headed h n ds
    → step_all grow s xs ≡ holding s (headed h (n + length xs) (ds ++ drop (data_len h - n) xs))
grow_body h n ds [] s e =
    holding_path s (e ∙ headed-path h (omega arith) (sym (rw (drop-nil {A = ℕ} (data_len h - n)) (append-nil ds))))
grow_body h n ds (x ∷ xs) s e =
    let es = cond (ltb n (data_len h)) ds (ds ++ (x ∷ [])) in
    rw (grow_is s x e)
    (grow_body h (suc n) es xs (holding s (headed h (suc n) es)) refl
    ∙ holding_path s (headed-path h (omega arith) (kept (data_len h) n x ds xs (ltb n (data_len h)) refl)))

-- so many of them are the body's
pub grow-place : (xs : List ℕ) (s : Sess)
    → let m = s.link.message in place (step_all grow s xs).link.message ≡ place m + length (drop (room m) xs)
grow-place xs s = at xs s.link.message s refl
  where
    at : (xs : List ℕ) (m : Message) (s : Sess) → s.link.message ≡ m → place (step_all grow s xs).link.message ≡ place m + length (drop (room m) xs)
    at [] (partly bytes) s e = rw e refl
    at [] (headed h n ds) s e = rw e (omega arith)
    at (x ∷ xs) (partly bytes) s e =
        let m = grown_by (partly bytes) x in
        ap (λ (s : Sess). place (step_all grow s xs).link.message) (grow_is s x e) ∙ at xs m (holding s m) refl ∙ rw (grown-place bytes x, grown-room bytes x)
    at (x ∷ xs) (headed h n ds) s e =
        let m = grown_by (headed h n ds) x in
        ap (λ (s : Sess). place (step_all grow s xs).link.message) (grow_is s x e) ∙ at xs m (holding s m) refl ∙ omega arith

-- ## What they do to the buffers

pub put-all : (xs : List ℕ) (b : Buffers) (s : Sess)
    → let m = s.link.message in put_all grow put s xs b ≡ lent (sets b.work (place m) (drop (room m) xs)) b.reply
put-all xs b s = at xs b s.link.message s refl
  where
    at : (xs : List ℕ) (b : Buffers) (m : Message) (s : Sess) → s.link.message ≡ m
        → put_all grow put s xs b ≡ lent (sets b.work (place m) (drop (room m) xs)) b.reply
    at [] b (partly bytes) s e = refl
    at [] b (headed h n ds) s e = refl
    at (x ∷ xs) b (partly bytes) s e =
        let m = grown_by (partly bytes) x in
        rw (put_is s x b e, grow_is s x e) (at xs b m (holding s m) refl ∙ rw (grown-place bytes x, grown-room bytes x))
    at (x ∷ xs) b (headed h n ds) s e =
        let m = grown_by (headed h n ds) x in
        rw (put_is s x b e, grow_is s x e) (at xs (lent (set b.work n x) b.reply) m (holding s m) refl)

module _ (bytes xs : List ℕ) (s : Sess) (b : Buffers) (e : s.link.message ≡ partly bytes) where
  pub put_in : length bytes + length xs < Codes.HEADER-LEN → put_all grow put s xs b ≡ b
  put_in h = put-all xs b s ∙ rw (e, drop_of_length-le xs {i = room (partly bytes)} (omega arith))

  pub put_whole : 0 < length xs → length bytes + length xs ≡ Codes.HEADER-LEN → put_all grow put s xs b ≡ b
  put_whole p h = put-all xs b s ∙ rw (e, drop_of_length-le xs {i = room (partly bytes)} (omega arith))

pub put_body : (h : Header) (n : ℕ) (ds xs : List ℕ) (s : Sess) (b : Buffers) → s.link.message ≡ headed h n ds
    → put_all grow put s xs b ≡ lent (sets b.work n xs) b.reply
put_body h n ds xs s b e = put-all xs b s ∙ rw e
