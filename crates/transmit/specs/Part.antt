-- Sending without copying (PROTOCOL.md, 9): the part that goes out next, and what is out after some steps.
use Rattle.std.specs.Prelude.{ℕ, zero, suc, ◌+◌, ◌-◌, ◌*◌, ◌≤◌, ◌<◌, min, cond, List, [], ◌∷◌, ◌++◌, ◌⊎◌, ◌≡◌, ltb, eqb, length, take, drop}
use Rattle.wire.specs.Codes.{HEADER-LEN, DESCRIPTOR-LEN, DIR-IN}

-- ## One step

-- The bytes of a list of segments that go out next, when `sent` are out: at most `most`, and none past the end of the
-- segment in which they start.
unfoldable pub next : List (List ℕ) → ℕ → ℕ → List ℕ
next [] sent most = []
next (s ∷ ss) sent most = cond (ltb sent (length s)) (take most (drop sent s)) (next ss (sent - length s) most)

-- The bytes of `p` descriptors: they stand behind the 48 in the header buffer.
abbrev pub behind : ℕ → ℕ
behind p = p * DESCRIPTOR-LEN

-- A reply's segments: the header, then `n` bytes of data, then `p` descriptors.
abbrev pub segments : List ℕ → List ℕ → ℕ → ℕ → List (List ℕ)
segments header frame n p = take HEADER-LEN header ∷ take n frame ∷ take (behind p) (drop HEADER-LEN header) ∷ []

-- The part of a reply that goes out next; empty where the header buffer or the data is too short.
unfoldable pub part_of : List ℕ → List ℕ → ℕ → ℕ → ℕ → ℕ → List ℕ
part_of header frame n p sent most =
    cond (ltb (length header) (HEADER-LEN + behind p)) [] (cond (ltb (length frame) n) [] (next (segments header frame n p) sent most))

-- Where the segment ends to which the next byte belongs.
abbrev pub segment_end : ℕ → ℕ → ℕ → ℕ
segment_end n p sent = cond (ltb sent HEADER-LEN) HEADER-LEN (cond (ltb sent (HEADER-LEN + n)) (HEADER-LEN + n) (HEADER-LEN + n + behind p))

-- The causes of an empty part.
abbrev pub Causes : List ℕ → List ℕ → ℕ → ℕ → ℕ → ℕ → Type 0
Causes header frame n p sent most =
    (HEADER-LEN + n + behind p ≤ sent) ⊎ (most ≡ 0) ⊎ (length header < HEADER-LEN + behind p) ⊎ (length frame < n)

-- ## The reply to a completion

-- How many bytes it has on the wire: data for IN only, and `p` descriptors.
abbrev pub wire_length : ℕ → ℕ → ℕ → ℕ
wire_length direction actual p = HEADER-LEN + cond (eqb direction DIR-IN) actual 0 + behind p

-- Its bytes on the wire.
abbrev pub reply_of : List ℕ → List ℕ → ℕ → ℕ → ℕ → List ℕ
reply_of header frame direction actual p =
    take HEADER-LEN header ++ cond (eqb direction DIR-IN) (take actual frame) [] ++ take (behind p) (drop HEADER-LEN header)

-- ## Step by step

-- A sender: the part that goes out, given how many bytes are out and the most that may go.
abbrev pub Sender : Type 0
Sender = ℕ → ℕ → List ℕ

-- How many bytes are out after `k` steps, where step `k` may send `most k`; steps count from 0.
abbrev pub sent_after : Sender → (ℕ → ℕ) → ℕ → ℕ
sent_after send most zero = 0
sent_after send most (suc k) = let sent = sent_after send most k in sent + length (send sent (most k))

-- The part of step `k`.
abbrev pub part_at : Sender → (ℕ → ℕ) → ℕ → List ℕ
part_at send most k = send (sent_after send most k) (most k)

-- The bytes that are out after `k` steps.
abbrev pub out_after : Sender → (ℕ → ℕ) → ℕ → List ℕ
out_after send most zero = []
out_after send most (suc k) = out_after send most k ++ part_at send most k

-- "the whole goes out, in order, within 48 + n + 16p steps": a sender puts out a whole of `total` bytes, whatever each
-- step may send. The last two are of steps that may each send at least one byte.
pub record Sends (send : Sender) (whole : List ℕ) (total : ℕ) : Type 0 where
  pub size : length whole ≡ total
  pub at_most : (most : ℕ → ℕ) (k : ℕ) → length (part_at send most k) ≤ most k
  pub in_order : (most : ℕ → ℕ) (k : ℕ) → out_after send most k ≡ take (sent_after send most k) whole
  pub never_past : (most : ℕ → ℕ) (k : ℕ) → sent_after send most k ≤ total
  pub advances : (most : ℕ → ℕ) → ((k : ℕ) → 1 ≤ most k) → (k : ℕ) → min k total ≤ sent_after send most k
  pub all_out : (most : ℕ → ℕ) → ((k : ℕ) → 1 ≤ most k) → (k : ℕ) → total ≤ k
      → (sent_after send most k ≡ total) × (part_at send most k ≡ [])

-- Of a header buffer and data that are long enough, the whole is the header's first 48 bytes, then n of the data, then the 16p bytes
-- behind the 48.
abbrev pub SentWhole : Type 0
SentWhole = (header frame : List ℕ) (n p : ℕ) → HEADER-LEN + behind p ≤ length header → n ≤ length frame
    → Sends (part_of header frame n p) (take HEADER-LEN header ++ take n frame ++ take (behind p) (drop HEADER-LEN header)) (HEADER-LEN + n + behind p)

-- Of a completion's reply, sent with n = its length on the wire less 48 and less 16p: the header; for IN the first actual_length bytes
-- of the data, which are there, else no data; and the descriptors.
abbrev pub ReplySent : Type 0
ReplySent = (header frame : List ℕ) (direction actual p : ℕ) → HEADER-LEN + behind p ≤ length header → (direction ≡ DIR-IN → actual ≤ length frame)
    → Sends (part_of header frame (wire_length direction actual p - HEADER-LEN - behind p) p) (reply_of header frame direction actual p)
    (wire_length direction actual p)
