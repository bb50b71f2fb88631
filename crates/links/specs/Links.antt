-- The link to the client with the table and the pending URBs beside it, as the definitions have them: a session.
use Rattle.std.specs.Prelude.{ℕ, ◌+◌, ◌-◌, ◌≤◌, ◌<◌, ◌≡◌, Bool, true, cond, ◌&&◌, ◌||◌, List, eqb, leb, ltb, length, take, drop, replicate}
use Rattle.wire.specs.Codes
use Rattle.messages.specs.Messages.{blank_header, data_len, body_len}
use Rattle.messages.specs.declared.message.Header.{Header}
use Rattle.exports.specs.declared.device.Table.{Table}
use Rattle.pending.specs.Pending.{list_of, Whole, Sound}
use Rattle.pending.specs.declared.counts.Counts.{Counts}
use Rattle.pending.specs.declared.list.Pending.{Pending}
use Rattle.limits.specs.Limits
use Rattle.model.specs.State
use Rattle.model.specs.State.{Message, partly, headed, Sess, with_link, with_message}
use Rattle.links.specs.declared.link.Progress.{Progress}
use Rattle.links.specs.declared.link.Link.{Link}

-- The parts of a session.
pub record Parts : Type 0 where
  pub table : Table
  pub link : Link
  pub pending : Pending

abbrev pub whole : Table → Link → Pending → Parts
whole t k l = record { table = t; link = k; pending = l }

-- ## The view

-- The bytes of descriptors that came: those of the body that stand behind the data.
abbrev pub descriptors_in : Progress → List ℕ
descriptors_in p = take (p.body - data_len p.header) p.descriptors

abbrev pub message_of : Progress → Message
message_of p = cond (ltb p.filled Codes.HEADER-LEN) (partly (take p.filled p.head)) (headed p.header p.body (descriptors_in p))

-- As they stand; with this message in progress.
abbrev pub bare_of : Parts → Sess
bare_of s =
    let k = s.link in
    record {
      table = s.table;
      link = record { phase = k.phase; devid = k.devid; message = message_of k.progress; counts = k.counts };
      pend = list_of s.pending;
    }

abbrev pub during : Parts → Message → Sess
during s m = with_link (with_message m (bare_of s).link) (bare_of s)

-- The parts fit together: every URB that was accepted is pending or has its end; of a request less than an import is in; of a
-- message a part of the header, or the header and a part of the body.
abbrev pub counts_fit : Counts → ℕ → Bool
counts_fit c pending = leb pending Limits.MAX-PENDING && eqb c.accepted (pending + c.returned + c.unlinked + c.dropped)

abbrev pub attached_fits : Progress → Bool
attached_fits p =
    ltb p.filled Codes.HEADER-LEN
    || (eqb p.filled Codes.HEADER-LEN && (leb (data_len p.header) Limits.MAX-TRANSFER && ltb p.body (body_len p.header)))

abbrev pub progress_fits : ℕ → Progress → Bool
progress_fits phase p =
    cond (eqb phase Limits.WAITING) (ltb p.filled (Codes.OP-LEN + Codes.BUSID-LEN)) (eqb phase Limits.ATTACHED && attached_fits p)

abbrev pub fits : Link → ℕ → Bool
fits k pending = counts_fit k.counts pending && progress_fits k.phase k.progress

-- A session whose parts don't fit together, as no act leaves it, is taken for closed. (`view_of_parts` of what an act leaves is the
-- definitions' next session, by the act's contract.)
unfoldable pub phase_of : Link → ℕ → ℕ
phase_of k pending = cond (fits k pending) k.phase Limits.CLOSED

abbrev pub view_of_parts : Parts → Sess
view_of_parts s = with_link (State.in_phase (phase_of s.link s.pending.count) (bare_of s).link) (bare_of s)

-- The session isn't closed, and its parts fit together; it is attached, and its counts fit together.
abbrev pub Live : Parts → Type 0
Live s = (counts_fit s.link.counts s.pending.count ≡ true) × (progress_fits s.link.phase s.link.progress ≡ true)

abbrev pub Attached : Parts → Type 0
Attached s = (counts_fit s.link.counts s.pending.count ≡ true) × (s.link.phase ≡ Limits.ATTACHED)

-- ## Links

abbrev pub no_descriptors : List ℕ
no_descriptors = replicate Limits.DESCRIPTORS-LEN 0

abbrev pub no_progress : Progress
no_progress = record { head = replicate Codes.HEADER-LEN 0; filled = 0; header = blank_header; body = 0; descriptors = no_descriptors }

-- A whole header, with so many bytes of the body, and its descriptors' bytes.
abbrev pub bodied : Header → ℕ → (descriptors : List ℕ) → Progress
bodied h body ds = record { head = replicate Codes.HEADER-LEN 0; filled = Codes.HEADER-LEN; header = h; body = body; descriptors = ds }

abbrev pub link_with_progress : Progress → Link → Link
link_with_progress p k = record { phase = k.phase; devid = k.devid; progress = p; counts = k.counts }

abbrev pub link_with_counts : Counts → Link → Link
link_with_counts c k = record { phase = k.phase; devid = k.devid; progress = k.progress; counts = c }

-- A link with no message in progress; of a session that nothing was said to yet.
abbrev pub resting : ℕ → ℕ → Counts → Link
resting phase devid counts = record { phase = phase; devid = devid; progress = no_progress; counts = counts }

abbrev pub fresh_link : ℕ → Link
fresh_link phase = resting phase 0 (record { accepted = 0; returned = 0; unlinked = 0; dropped = 0 })

-- A count with so many more, if that isn't past the last ticket.
unfoldable pub plus : ℕ → ℕ → ℕ
plus count more = cond (leb (count + more) Limits.LAST-TICKET) (count + more) count

-- The end of a session with so many URBs pending.
abbrev pub ended_link : Link → ℕ → Link
ended_link k pending =
    let c = k.counts in
    resting Limits.CLOSED k.devid
    (record { accepted = c.accepted; returned = c.returned; unlinked = c.unlinked; dropped = plus c.dropped pending })

-- ## What the view hides

-- The header has its 48 places. While it grows, each behind those that are filled is 0, and nothing is read; once it is read, all are 0. The
-- descriptors have their 512 places, and each behind those that came is 0.
pub record Padded (p : Progress) : Type 0 where
  pub size : length p.head ≡ Codes.HEADER-LEN
  pub fits : p.filled ≤ Codes.HEADER-LEN
  pub grows : p.filled < Codes.HEADER-LEN
      → (drop p.filled p.head ≡ replicate (Codes.HEADER-LEN - p.filled) 0) × (p.header ≡ blank_header) × (p.body ≡ 0)
  pub read : p.filled ≡ Codes.HEADER-LEN → p.head ≡ replicate Codes.HEADER-LEN 0
  pub places : length p.descriptors ≡ Limits.DESCRIPTORS-LEN
  pub behind : let n = p.body - data_len p.header in drop n p.descriptors ≡ replicate (Limits.DESCRIPTORS-LEN - n) 0

-- The pending list has its 32 places, and each behind those in use is blank.
abbrev pub Clean : Pending → Type 0
Clean l = Whole l × Sound l

-- All that the view hides is as open has it: unused places are blank, and the phase is the one that the view has.
pub record TidyParts (s : Parts) : Type 0 where
  pub list : Clean s.pending
  pub head : Padded s.link.progress
  pub phase : s.link.phase ≡ phase_of s.link s.pending.count

-- So that of tidy parts the view says all.
abbrev pub OneStruct : Type 0
OneStruct = (s t : Parts) → TidyParts s → TidyParts t → view_of_parts s ≡ view_of_parts t → s ≡ t
