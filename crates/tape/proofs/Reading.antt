-- A record is read exactly where its bytes stand at the front: what was written reads back, whatever follows it, and nothing else
-- is read.
use Rattle.std.specs.Prelude.{Some, None, Result, Ok, Err}
use Rattle.std.proofs.Common.{◌≡◌, ℕ, ◌<◌, ◌≤◌, cond, eqb, ltb, leb, ◌⊎◌, ◌↔◌, List, [], ◌∷◌, ◌++◌, length, get_or, take, drop, sym, refl, ap, ◌∙◌, inl, inr, ⊎_elim, append_assoc, arith, length-append, length-drop, take-append-drop, length-take-le, drop-drop, take_at, take-add, drop_at, ltb-false, ltb-true, le-ltb, lt-ltb, ne_eqb, eqb-true, leb-false}
use borrow.Author.Tests.{lt-leb, eqb-false}
use Rattle.ground.proofs.Cases.{by_cond}
use Rattle.wire.specs.BigEndian.{number_of, bytes_of, Bytes}
use Rattle.wire.specs.Fields.{Field, u8, u16, u32, pack, unpack, field, widths, size, Fitting}
use Rattle.wire.proofs.Numbers.{number-below, bytes_of_number}
use Rattle.wire.proofs.Heads.{pack-length, unpack-pack, bytes_split}
use Rattle.limits.specs.Limits.{MAX-PACKETS}
use Rattle.tape.specs.Layout
use Rattle.tape.specs.Tape.{u64, fields_of, count_of, most_of, length_of, record_bytes, Starts, stream_head, completion_head, iso_head, head_of}
use Rattle.tape.specs.Tape.{read_in, read_of, read_behind, stream_of}
use Rattle.tape.specs.declared.reader.Record.{Record}
use Rattle.tape.specs.declared.reader.Record.TheVariants.{Stream, Completion, Iso, Close}
use Rattle.tape.specs.declared.reader.Unread.{Unread}

-- ## Fields at the front of bytes

-- fields that were read are the bytes that they were read from
front : (ws l : List ℕ) → Bytes l → size ws ≤ length l → (pack (unpack ws l) ≡ take (size ws) l) × Fitting (unpack ws l)
front [] l b h = (refl, tt)
front (w ∷ ws) l b h =
    let t : length (take w l) ≡ w = length-take-le w l (omega arith) in
    let B = bytes_split w l b in
    let r : bytes_of w (number_of (take w l)) ≡ take w l = rw t at (bytes_of_number (take w l) B.0) in
    let k = front ws (drop w l) B.1 (simp length-drop (omega arith)) in
    (rw (r, k.0, take-add w (size ws) l), (rw t at (number-below (take w l) B.0), k.1))

-- ## Heads

abbrev pub mark_in : List ℕ → ℕ
mark_in bytes = field 2 Layout.MARK-AT bytes

-- How many bytes a mark and the fields behind it take.
abbrev pub head_len : ℕ → ℕ
head_len mark =
    cond (eqb mark Layout.STREAM-MARK) Layout.STREAM-AT
    (cond (eqb mark Layout.COMPLETION-MARK) Layout.COMPLETION-LEN
    (cond (eqb mark Layout.ISO-MARK) Layout.RESULTS-AT Layout.MARK-LEN))

-- What a head tells of the bytes that it was read from: the fields of a record; how many bytes are needed to tell, and why; or
-- why none is there.
abbrev pub Told : List ℕ → Result Record Unread → Type 0
Told bytes (Ok r) = (unpack (widths (fields_of r)) bytes ≡ fields_of r) × (count_of r ≤ most_of r) × (size (widths (fields_of r)) ≤ length bytes)
Told bytes (Err (Unread.Short n)) = (length bytes < n) × ((n ≡ Layout.MARK-LEN) ⊎ ((Layout.MARK-LEN ≤ length bytes) × (n ≡ head_len (mark_in bytes))))
Told bytes (Err Unread.Bad) =
    ((Layout.STREAM-AT ≤ length bytes) × (mark_in bytes ≡ Layout.STREAM-MARK) × (Layout.MAX-COUNT < field 2 Layout.COUNT-AT bytes))
    ⊎ ((Layout.RESULTS-AT ≤ length bytes) × (mark_in bytes ≡ Layout.ISO-MARK) × (MAX-PACKETS < field 1 Layout.RESULT-COUNT-AT bytes))
    ⊎ ((Layout.MARK-LEN ≤ length bytes)
    × (mark_in bytes ≡ Layout.STREAM-MARK → ⊥)
    × (mark_in bytes ≡ Layout.COMPLETION-MARK → ⊥)
    × (mark_in bytes ≡ Layout.ISO-MARK → ⊥)
    × (mark_in bytes ≡ Layout.CLOSE-MARK → ⊥))

completion_fields : (bytes : List ℕ)
    → unpack (2 ∷ 8 ∷ 4 ∷ 4 ∷ []) bytes
    ≡ u16 (field 2 Layout.MARK-AT bytes) ∷ u64 (field 8 Layout.TICKET-AT bytes) ∷ u32 (field 4 Layout.STATUS-AT bytes)
    ∷ u32 (field 4 Layout.ACTUAL-AT bytes) ∷ []
completion_fields bytes = simp drop-drop

iso-fields : (bytes : List ℕ)
    → unpack (2 ∷ 8 ∷ 4 ∷ 1 ∷ []) bytes
    ≡ u16 (field 2 Layout.MARK-AT bytes) ∷ u64 (field 8 Layout.TICKET-AT bytes) ∷ u32 (field 4 Layout.STATUS-AT bytes)
    ∷ u8 (field 1 Layout.RESULT-COUNT-AT bytes) ∷ []
iso-fields bytes = simp drop-drop

stream_told : (bytes : List ℕ) → Layout.MARK-LEN ≤ length bytes → mark_in bytes ≡ Layout.STREAM-MARK → Told bytes (stream_head bytes)
unfolding stream_head
stream_told bytes l m =
    by_cond (Told bytes) (ltb (length bytes) Layout.STREAM-AT) (λ e. (ltb-true _ _ e, inr (l, rw m)))
    λ e.
    by_cond (Told bytes) (ltb Layout.MAX-COUNT (field 2 Layout.COUNT-AT bytes)) (λ f. inl (ltb-false _ _ e, m, ltb-true _ _ f))
    λ f. (rw m, ltb-false _ _ f, ltb-false _ _ e)

completion_told : (bytes : List ℕ) → Layout.MARK-LEN ≤ length bytes → mark_in bytes ≡ Layout.COMPLETION-MARK → Told bytes (completion_head bytes)
unfolding completion_head
completion_told bytes l m =
    by_cond (Told bytes) (ltb (length bytes) Layout.COMPLETION-LEN) (λ e. (ltb-true _ _ e, inr (l, rw m)))
    λ e. (rw (completion_fields bytes, m), omega arith, ltb-false _ _ e)

iso_told : (bytes : List ℕ) → Layout.MARK-LEN ≤ length bytes → mark_in bytes ≡ Layout.ISO-MARK → Told bytes (iso_head bytes)
unfolding iso_head
iso_told bytes l m =
    let count = field 1 Layout.RESULT-COUNT-AT bytes in
    by_cond (Told bytes) (ltb (length bytes) Layout.RESULTS-AT) (λ e. (ltb-true _ _ e, inr (l, rw m)))
    λ e.
    by_cond (Told bytes) (ltb MAX-PACKETS count) (λ f. inr (inl (ltb-false _ _ e, m, ltb-true _ _ f)))
    λ f. (rw (iso-fields bytes, m), omega (arith, ltb-false MAX-PACKETS count f), ltb-false _ _ e)

pub told : (bytes : List ℕ) → Told bytes (head_of bytes)
unfolding head_of
told bytes =
    let mark = mark_in bytes in
    by_cond (Told bytes) (ltb (length bytes) Layout.MARK-LEN) (λ e. (ltb-true _ _ e, inl refl))
    λ e.
    let l = ltb-false (length bytes) Layout.MARK-LEN e in
    by_cond (Told bytes) (eqb mark Layout.STREAM-MARK) (λ m. stream_told bytes l (eqb-true _ _ m))
    λ s.
    by_cond (Told bytes) (eqb mark Layout.COMPLETION-MARK) (λ m. completion_told bytes l (eqb-true _ _ m))
    λ d.
    by_cond (Told bytes) (eqb mark Layout.ISO-MARK) (λ m. iso_told bytes l (eqb-true _ _ m))
    λ i.
    by_cond (Told bytes) (eqb mark Layout.CLOSE-MARK) (λ m. (rw (eqb-true mark Layout.CLOSE-MARK m), omega arith, l))
    λ x. inr (inr (l, eqb-false _ _ s, eqb-false _ _ d, eqb-false _ _ i, eqb-false _ _ x))

-- The value of the field at a place of a head.
abbrev pub value : ℕ → List Field → ℕ
value i fs = (get_or fs i (u16 0)).value

-- The other way round: the fields and the room for them make the head.
pub found : (bytes : List ℕ) (r : Record) → Told bytes (Ok r) → head_of bytes ≡ Ok r
unfolding head_of stream_head completion_head iso_head
found bytes (Stream count) t =
    let m : mark_in bytes ≡ Layout.STREAM-MARK = ap (value 0) t.0 in
    let c : field 2 Layout.COUNT-AT bytes ≡ count = ap (value 1) t.0 in
    rw (le-ltb (length bytes) Layout.MARK-LEN (omega arith), m, le-ltb (length bytes) Layout.STREAM-AT t.2, c, le-ltb Layout.MAX-COUNT count t.1)
found bytes (Completion ticket status actual) t =
    let e = sym (completion_fields bytes) ∙ t.0 in
    let m : mark_in bytes ≡ Layout.COMPLETION-MARK = ap (value 0) e in
    let k : field 8 Layout.TICKET-AT bytes ≡ ticket = ap (value 1) e in
    let s : field 4 Layout.STATUS-AT bytes ≡ status = ap (value 2) e in
    let a : field 4 Layout.ACTUAL-AT bytes ≡ actual = ap (value 3) e in
    rw (le-ltb (length bytes) Layout.MARK-LEN (omega arith), m, le-ltb (length bytes) Layout.COMPLETION-LEN t.2, k, s, a)
found bytes (Iso ticket status count) t =
    let e = sym (iso-fields bytes) ∙ t.0 in
    let m : mark_in bytes ≡ Layout.ISO-MARK = ap (value 0) e in
    let k : field 8 Layout.TICKET-AT bytes ≡ ticket = ap (value 1) e in
    let s : field 4 Layout.STATUS-AT bytes ≡ status = ap (value 2) e in
    let c : field 1 Layout.RESULT-COUNT-AT bytes ≡ count = ap (value 3) e in
    rw (
      le-ltb (length bytes) Layout.MARK-LEN (omega arith),
      m,
      le-ltb (length bytes) Layout.RESULTS-AT t.2,
      c,
      le-ltb MAX-PACKETS count (omega arith),
      k,
      s,
    )
found bytes Close t =
    let m : mark_in bytes ≡ Layout.CLOSE-MARK = ap (value 0) t.0 in
    rw (le-ltb (length bytes) Layout.MARK-LEN t.2, m)

pub one_of_3 : {A B C D : Type 0} → (A → D) → (B → D) → (C → D) → A ⊎ B ⊎ C → D
one_of_3 f g h = ⊎_elim f (⊎_elim g h)

-- The same where no record is there.
pub unfound : (bytes : List ℕ) → Told bytes (Err Unread.Bad) → head_of bytes ≡ Err Unread.Bad
unfolding head_of stream_head iso_head
unfound bytes =
    one_of_3
    (λ t. rw (le-ltb (length bytes) Layout.MARK-LEN (omega arith), t.1, le-ltb _ _ t.0, lt-ltb _ _ t.2))
    (λ t. rw (le-ltb (length bytes) Layout.MARK-LEN (omega arith), t.1, le-ltb _ _ t.0, lt-ltb _ _ t.2))
    (λ t. rw (le-ltb _ _ t.0, ne_eqb _ _ t.1, ne_eqb _ _ t.2, ne_eqb _ _ t.3, ne_eqb _ _ t.4))

-- ## Records

clash : {A : Type 0} {r : Record} → None ≡ Some r → A
clash e = absurd (let z : ◌≡◌ {A = ℕ} 0 1 = cc in omega arith)

-- What is read is what the head tells, and it is there whole.
pub read_head : (n : ℕ) (h : Result Record Unread) (r : Record) → read_in n h ≡ Some r → (h ≡ Ok r) × (length_of r ≤ n)
read_head n (Ok q) r e =
    by_cond (λ x. x ≡ Some r → (◌≡◌ {A = Result Record Unread} (Ok q) (Ok r)) × (length_of r ≤ n)) (ltb n (length_of q)) (λ _ b. clash b)
    (λ l b. let s : q ≡ r = cc in (rw s, rw s at (ltb-false n (length_of q) l)))
    e
read_head n (Err why) r e = clash e

pub read_whole : (bytes : List ℕ) (r : Record) → read_of bytes ≡ Some r → length_of r ≤ length bytes
read_whole bytes r e = (read_head (length bytes) (head_of bytes) r e).1

-- a record's bytes are as many as its length says
pub record_length : (r : Record) (behind : List ℕ) → length behind ≡ count_of r → length (record_bytes r behind) ≡ length_of r
record_length r behind e = simp (length-append, pack-length (fields_of r), e)

starts : (bytes : List ℕ) → Bytes bytes → (r : Record) → read_of bytes ≡ Some r → Starts bytes r
starts bytes b r e =
    let h = read_head (length bytes) (head_of bytes) r e in
    let t : Told bytes (Ok r) = rw h.0 at (told bytes) in
    let k = size (widths (fields_of r)) in
    let f = front (widths (fields_of r)) bytes b t.2 in
    let p : pack (fields_of r) ≡ take k bytes = rw t.0 at f.0 in
    record {
      behind = take (count_of r) (drop k bytes);
      rest = drop (length_of r) bytes;
      whole = rw (p, ← take-add k (count_of r) bytes) (sym (take-append-drop (length_of r) bytes));
      count = length-take-le (count_of r) (drop k bytes) (simp length-drop (omega arith));
      few = t.1;
      fits = rw t.0 at f.1;
    }

pub fields-first : (bytes : List ℕ) (r : Record) (s : Starts bytes r) → bytes ≡ pack (fields_of r) ++ (s.behind ++ s.rest)
fields-first bytes r s = s.whole ∙ append_assoc (pack (fields_of r)) s.behind s.rest

pub reads : (bytes : List ℕ) (r : Record) → Starts bytes r → read_of bytes ≡ Some r
reads bytes r s =
    let fs = fields_of r in
    let l : length_of r ≤ length bytes =
    rw (s.whole, length-append (record_bytes r s.behind) s.rest, record_length r s.behind s.count) (omega arith) in
    let u : unpack (widths fs) bytes ≡ fs = rw (fields-first bytes r s) (unpack-pack fs (s.behind ++ s.rest) s.fits) in
    rw (found bytes r (u, s.few, omega arith), le-ltb (length bytes) (length_of r) l)

-- ## The theorem

-- a record is read exactly where bytes start with it
pub read_iff : (bytes : List ℕ) → Bytes bytes → (r : Record) → (read_of bytes ≡ Some r) ↔ Starts bytes r
read_iff bytes b r = (starts bytes b r, reads bytes r)

-- and where fewer than the most came before
pub next_iff : (before : ℕ) (bytes : List ℕ) → Bytes bytes → (r : Record)
    → (read_behind before bytes ≡ Some r) ↔ ((before < Layout.MAX-RECORDS) × Starts bytes r)
next_iff before bytes b r = (
  by_cond (λ x. x ≡ Some r → (before < Layout.MAX-RECORDS) × Starts bytes r) (leb Layout.MAX-RECORDS before) (λ _ e. clash e)
      (λ l e. (leb-false _ _ l, starts bytes b r e)),
  λ s. rw (lt-leb _ _ s.0) (reads bytes r s.1),
)

-- the next record stands behind as many bytes as the length says
pub rest_is : (bytes : List ℕ) (r : Record) (s : Starts bytes r) → drop (length_of r) bytes ≡ s.rest
rest_is bytes r s = rw s.whole (drop_at (record_bytes r s.behind) s.rest (length_of r) (record_length r s.behind s.count))

-- the stream bytes are the record's
pub stream_is : (bytes : List ℕ) (count : ℕ) (s : Starts bytes (Stream count)) → stream_of count bytes ≡ s.behind
stream_is bytes count s =
    let fs = fields_of (Stream count) in
    let l = read_whole bytes (Stream count) (reads bytes (Stream count) s) in
    rw (
      le-ltb _ _ l,
      fields-first bytes (Stream count) s,
      drop_at (pack fs) (s.behind ++ s.rest) Layout.STREAM-AT (pack-length fs),
    ) (take_at s.behind s.rest count s.count)
