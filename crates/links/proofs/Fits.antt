-- When the parts of a session fit together.
use Prim.Native.Nat.{ℕ, ◌+◌, ◌≤◌, ◌<◌}
use native.Mathlib.Omega.{arith}
use mathlib.Core.Path.{◌≡◌, refl, sym, ◌∙◌}
use mathlib.Core.Bool.{Bool, true, false, cond, not, ◌&&◌, ◌||◌, true≢false}
use lib.Dec.{eqb, leb, ltb}
use borrow.Author.Tests.{eqb-true, eqb-false, eq-eqb, ne_eqb, le-leb, lt-leb, leb-true, lt-ltb, le-ltb, ltb-true}
use Rattle.wire.specs.Codes
use Rattle.messages.specs.Messages.{data_len, body_len}
use Rattle.pending.specs.declared.counts.Counts.{Counts}
use Rattle.limits.specs.Limits
use Rattle.links.specs.Links.{Parts, counts_fit, attached_fits, progress_fits, phase_of, plus, Attached}
use Rattle.links.specs.declared.link.Progress.{Progress}
use Rattle.links.specs.declared.link.Link.{Link}

-- ## The counts

module _ (c : Counts) (n : ℕ) where
  pub odd_counts : n ≤ Limits.MAX-PENDING → (c.accepted ≡ n + c.returned + c.unlinked + c.dropped → ⊥) → counts_fit c n ≡ false
  odd_counts l h = rw (le-leb n Limits.MAX-PENDING l, ne_eqb c.accepted (n + c.returned + c.unlinked + c.dropped) h)

  pub even_counts : n ≤ Limits.MAX-PENDING → c.accepted ≡ n + c.returned + c.unlinked + c.dropped → counts_fit c n ≡ true
  even_counts l h = rw (le-leb n Limits.MAX-PENDING l, eq-eqb c.accepted (n + c.returned + c.unlinked + c.dropped) h)

  -- the last of them is what is left of the others
  pub last-count : (d : ℕ) → n ≤ Limits.MAX-PENDING → c.accepted ≡ n + c.returned + c.unlinked + d → eqb d c.dropped ≡ counts_fit c n
  last-count d l h = at (eqb d c.dropped) refl
    where
      at : (b : Bool) → eqb d c.dropped ≡ b → b ≡ counts_fit c n
      at true e = sym (even_counts l (omega (arith, eqb-true d c.dropped e)))
      at false e = sym (odd_counts l (λ q. eqb-false d c.dropped e (omega arith)))

both : (a b : Bool) → a && b ≡ true → (a ≡ true) × (b ≡ true)
both true b h = (refl, h)
both false b h = absurd (true≢false (sym h))

pub counts_known : (c : Counts) (n : ℕ) → counts_fit c n ≡ true → (n ≤ Limits.MAX-PENDING) × (c.accepted ≡ n + c.returned + c.unlinked + c.dropped)
counts_known c n h =
    let b = both (leb n Limits.MAX-PENDING) (eqb c.accepted (n + c.returned + c.unlinked + c.dropped)) h in
    (leb-true n Limits.MAX-PENDING b.0, eqb-true _ _ b.1)

-- ## The message in progress

module _ (p : Progress) where
  pub in_header : p.filled < Codes.HEADER-LEN → attached_fits p ≡ true
  in_header h = rw (lt-ltb p.filled Codes.HEADER-LEN h)

  module _ (n : ℕ) (e : n ≡ data_len p.header) (h : p.filled ≡ Codes.HEADER-LEN) where
    pub long_data : Limits.MAX-TRANSFER < n → false ≡ attached_fits p
    long_data l = rw (← e, h, lt-leb n Limits.MAX-TRANSFER l)

    pub in_body : (m : ℕ) → m ≡ body_len p.header → n ≤ Limits.MAX-TRANSFER → ltb p.body m ≡ attached_fits p
    in_body m b l = rw (← b, ← e, h, le-leb n Limits.MAX-TRANSFER l)

-- ## The phase

module _ (k : Link) (n : ℕ) (counts progress : Bool) where
  abbrev phased : Bool → Bool → ℕ
  phased counts progress = cond (counts && progress) k.phase Limits.CLOSED

  phase_is : counts ≡ counts_fit k.counts n → progress ≡ progress_fits k.phase k.progress → phased counts progress ≡ phase_of k n
  unfolding phase_of
  phase_is p q = rw (p, q)

  pub phase_fit : counts ≡ counts_fit k.counts n → not counts ≡ false → progress ≡ progress_fits k.phase k.progress → not progress ≡ false
      → k.phase ≡ phase_of k n
  phase_fit p h q z = sym (at counts progress h z) ∙ phase_is p q
    where
      at : (a b : Bool) → not a ≡ false → not b ≡ false → phased a b ≡ k.phase
      at true true h z = refl
      at true false h z = absurd (true≢false z)
      at false b h z = absurd (true≢false h)

  pub odd_by_counts : counts ≡ counts_fit k.counts n → not counts ≡ true → Limits.CLOSED ≡ phase_of k n
  unfolding phase_of
  odd_by_counts p h = rw (← p) (at counts h)
    where
      at : (a : Bool) → not a ≡ true → Limits.CLOSED ≡ phased a (progress_fits k.phase k.progress)
      at true h = absurd (true≢false (sym h))
      at false h = refl

  pub odd_by_progress : progress ≡ progress_fits k.phase k.progress → not progress ≡ true → Limits.CLOSED ≡ phase_of k n
  unfolding phase_of
  odd_by_progress p h = rw (← p) (at (counts_fit k.counts n) progress h)
    where
      at : (a b : Bool) → not b ≡ true → Limits.CLOSED ≡ phased a b
      at true false h = refl
      at false b h = refl
      at true true h = absurd (true≢false (sym h))

-- ## What fits is known

either : (a b : Bool) → a || b ≡ true → (a ≡ false → b ≡ true)
either true b h k = absurd (true≢false k)
either false b h k = h

pub waiting_known : (phase : ℕ) (p : Progress) → progress_fits phase p ≡ true → phase ≡ Limits.WAITING → p.filled < Codes.OP-LEN + Codes.BUSID-LEN
waiting_known phase p h w =
    let f : ltb p.filled (Codes.OP-LEN + Codes.BUSID-LEN) ≡ true = rw w at h in
    ltb-true p.filled (Codes.OP-LEN + Codes.BUSID-LEN) f

pub attached_known : (phase : ℕ) (p : Progress) → progress_fits phase p ≡ true → (phase ≡ Limits.WAITING → ⊥)
    → (phase ≡ Limits.ATTACHED) × (attached_fits p ≡ true)
attached_known phase p h w =
    let f : eqb phase Limits.ATTACHED && attached_fits p ≡ true = rw (ne_eqb phase Limits.WAITING w) at h in
    let b = both (eqb phase Limits.ATTACHED) (attached_fits p) f in
    (eqb-true phase Limits.ATTACHED b.0, b.1)

pub body_known : (p : Progress) → attached_fits p ≡ true → Codes.HEADER-LEN ≤ p.filled
    → (p.filled ≡ Codes.HEADER-LEN) × (p.body < body_len p.header) × (data_len p.header ≤ Limits.MAX-TRANSFER)
body_known p h l =
    let m = data_len p.header in
    let n = body_len p.header in
    let rest = leb m Limits.MAX-TRANSFER && ltb p.body n in
    let z : ltb p.filled Codes.HEADER-LEN ≡ false = le-ltb p.filled Codes.HEADER-LEN l in
    let a = both (eqb p.filled Codes.HEADER-LEN) rest (either (ltb p.filled Codes.HEADER-LEN) (eqb p.filled Codes.HEADER-LEN && rest) h z) in
    let c = both (leb m Limits.MAX-TRANSFER) (ltb p.body n) a.1 in
    (eqb-true p.filled Codes.HEADER-LEN a.0, ltb-true p.body n c.1, leb-true m Limits.MAX-TRANSFER c.0)

-- ## A message that goes on

pub fits_waiting : (phase : ℕ) (q : Progress) → phase ≡ Limits.WAITING → q.filled < Codes.OP-LEN + Codes.BUSID-LEN → progress_fits phase q ≡ true
fits_waiting phase q w h = rw (w, lt-ltb q.filled (Codes.OP-LEN + Codes.BUSID-LEN) h)

pub fits-header : (phase : ℕ) (q : Progress) → phase ≡ Limits.ATTACHED → q.filled < Codes.HEADER-LEN → progress_fits phase q ≡ true
fits-header phase q w h = rw (w, lt-ltb q.filled Codes.HEADER-LEN h)

pub fits_body : (phase : ℕ) (q : Progress) → phase ≡ Limits.ATTACHED → q.filled ≡ Codes.HEADER-LEN → data_len q.header ≤ Limits.MAX-TRANSFER
    → q.body < body_len q.header → progress_fits phase q ≡ true
fits_body phase q w h l b = rw (w, h, le-leb (data_len q.header) Limits.MAX-TRANSFER l, lt-ltb q.body (body_len q.header) b)

-- ## Sums

-- of counts that fit together every sum is there
pub plus-fits : (count more limit : ℕ) → limit ≤ Limits.LAST-TICKET → count + more ≤ limit → plus count more ≡ count + more
unfolding plus
plus-fits count more limit l h = rw (le-leb (count + more) Limits.LAST-TICKET (omega arith))

-- an attached session has no more pending than there is room for
pub few : (s : Parts) → Attached s → s.pending.count ≤ Limits.MAX-PENDING
few s h = (counts_known s.link.counts s.pending.count h.0).0
