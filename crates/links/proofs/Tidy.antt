-- What the view hides.
use Prim.Native.Nat.{ℕ, ◌-◌, ◌≤◌, ◌<◌}
use native.Mathlib.Omega.{arith}
use mathlib.Core.Path.{◌≡◌, refl, sym, ap, ◌∙◌}
use mathlib.Core.Bool.{Bool, true, false}
use mathlib.Core.List.{List, ◌++◌}
use borrow.Author.Tests.{ltb-true, ltb-false}
use lib.Dec.{ltb}
use lib.ListN.{length, take, drop, replicate, take-append-drop, length-take, length-replicate}
use lib.Seq.{length-take-le}
use Rattle.wire.specs.Codes
use Rattle.messages.specs.Messages.{blank_header, data_len}
use Rattle.messages.specs.declared.message.Header.{Header}
use Rattle.limits.specs.Limits
use Rattle.pending.proofs.Laws.{sound_view}
use Rattle.model.specs.State.{Message, partly, headed, Sess}
use Rattle.links.specs.Links.{descriptors_in, message_of, no_descriptors, no_progress, bodied, Padded, OneStruct}
use Rattle.links.specs.declared.link.Progress.{Progress}
use Rattle.links.proofs.Views.{message-partly, message-headed}

-- ## A header

-- no message in progress, and a header that was read
pub none-padded : Padded no_progress
none-padded =
    record {
      size = refl;
      fits = omega arith;
      grows = λ l. (refl, refl, refl);
      read = λ e. refl;
      places = length-replicate {A = ℕ} Limits.DESCRIPTORS-LEN 0;
      behind = refl;
    }

module _ (h : Header) (body : ℕ) (ds : List ℕ) where
  pub read-padded : length ds ≡ Limits.DESCRIPTORS-LEN
      → drop (body - data_len h) ds ≡ replicate (Limits.DESCRIPTORS-LEN - (body - data_len h)) 0
      → Padded (bodied h body ds)
  read-padded n e = record { size = refl; fits = omega arith; grows = λ l. absurd (omega arith); read = λ e. refl; places = n; behind = e }

-- bytes with zeros behind them
abbrev filled_up : ℕ → List ℕ → List ℕ
filled_up n bytes = bytes ++ replicate (n - length bytes) 0

filled-up : (n size : ℕ) (l : List ℕ) → length l ≡ size → drop n l ≡ replicate (size - n) 0 → l ≡ filled_up size (take n l)
filled-up n size l s e =
    let k : size - length (take n l) ≡ size - n = rw (length-take n l, s) (omega arith) in
    rw (k, ← e) (sym (take-append-drop n l))

-- the progress that a message is
abbrev progress_of : Message → Progress
progress_of (partly bytes) =
    record { head = filled_up Codes.HEADER-LEN bytes; filled = length bytes; header = blank_header; body = 0; descriptors = no_descriptors }
progress_of (headed h body ds) = bodied h body (filled_up Limits.DESCRIPTORS-LEN ds)

padded_is : (p : Progress) → Padded p → p ≡ progress_of (message_of p)
padded_is p h = at (ltb p.filled Codes.HEADER-LEN) refl
  where
    growing : p.filled < Codes.HEADER-LEN → p ≡ progress_of (partly (take p.filled p.head))
    growing l =
        let g = h.grows l in
        let n : length (take p.filled p.head) ≡ p.filled = length-take-le p.filled p.head (omega (arith, h.size, h.fits)) in
        let e = filled-up p.filled Codes.HEADER-LEN p.head h.size g.0 in
        let z : p.body - data_len p.header ≡ 0 = omega (arith, g.2) in
        let d : p.descriptors ≡ no_descriptors = rw z at h.behind in
        λ i. record { head = e i; filled = sym n i; header = g.1 i; body = g.2 i; descriptors = d i }

    whole : Codes.HEADER-LEN ≤ p.filled → p ≡ progress_of (headed p.header p.body (descriptors_in p))
    whole l =
        let n : p.filled ≡ Codes.HEADER-LEN = omega (arith, h.fits) in
        let d = filled-up (p.body - data_len p.header) Limits.DESCRIPTORS-LEN p.descriptors h.places h.behind in
        λ i. record { head = h.read n i; filled = n i; header = p.header; body = p.body; descriptors = d i }

    at : (b : Bool) → ltb p.filled Codes.HEADER-LEN ≡ b → p ≡ progress_of (message_of p)
    at true e = let l = ltb-true p.filled Codes.HEADER-LEN e in growing l ∙ ap progress_of (sym (message-partly p l))
    at false e = let l = ltb-false p.filled Codes.HEADER-LEN e in whole l ∙ ap progress_of (sym (message-headed p l))

-- ## The struct

pub one_struct : OneStruct
one_struct s t a b v =
    let l : s.pending ≡ t.pending = sound_view s.pending t.pending a.list.0 b.list.0 a.list.1 b.list.1 (ap (λ (x : Sess). x.pend) v) in
    let p : s.link.progress ≡ t.link.progress =
    padded_is s.link.progress a.head ∙ (λ i. progress_of (v i).link.message) ∙ sym (padded_is t.link.progress b.head) in
    let w : s.link.phase ≡ t.link.phase = a.phase ∙ ap (λ (x : Sess). x.link.phase) v ∙ sym b.phase in
    λ i. record { table = (v i).table; link = record { phase = w i; devid = (v i).link.devid; progress = p i; counts = (v i).link.counts }; pending = l i }
