-- The laws of what is wanted: no byte behind the record, and as many as tell it.
use Rattle.std.specs.Prelude.{Some, Result, Ok, Err}
use Rattle.std.proofs.Common.{◌≡◌, ℕ, ◌≤◌, eqb, List, [], ◌∷◌, ◌++◌, length, drop, sym, refl, ap, ◌∙◌, inl, inr, ⊎_elim, arith, length-append, length-drop, le-ltb}
use lib.Seq.{take-append-le, drop-append-le}
use Rattle.ground.proofs.Cases.{by_cond}
use Rattle.wire.specs.Fields.{unpack, widths, size}
use Rattle.wire.proofs.Heads.{field_stays}
use Rattle.tape.specs.Layout
use Rattle.tape.specs.Tape.{fields_of, count_of, most_of, length_of, head_of, read_in, read_of, wanted_in, wanted_of, ReadsAlike}
use Rattle.tape.specs.declared.reader.Record.{Record}
use Rattle.tape.specs.declared.reader.Record.TheVariants.{Stream, Completion, Iso, Close}
use Rattle.tape.specs.declared.reader.Unread.{Unread}
use Rattle.tape.proofs.Reading.{mark_in, head_len, Told, told, found, one_of_3, unfound, value, read_head}

-- ## More bytes behind

unpack-more : (ws bytes more : List ℕ) → size ws ≤ length bytes → unpack ws (bytes ++ more) ≡ unpack ws bytes
unpack-more [] bytes more h = refl
unpack-more (w ∷ ws) bytes more h =
    rw (
      take-append-le w bytes more (omega arith),
      drop-append-le w bytes more (omega arith),
      unpack-more ws (drop w bytes) more (simp length-drop (omega arith)),
    )

module _ (bytes more : List ℕ) where
  longer : length bytes ≤ length (bytes ++ more)
  longer = simp length-append (omega arith)

  pub mark-more : Layout.MARK-LEN ≤ length bytes → mark_in (bytes ++ more) ≡ mark_in bytes
  mark-more h = field_stays 2 Layout.MARK-AT bytes more h

  -- a head that tells a record, or that there is none, stays
  pub record_stays : (r : Record) → Told bytes (Ok r) → head_of (bytes ++ more) ≡ Ok r
  record_stays r t =
      found (bytes ++ more) r (unpack-more (widths (fields_of r)) bytes more t.2 ∙ t.0, t.1, omega (arith, longer))

  pub bad_stays : Told bytes (Err Unread.Bad) → head_of (bytes ++ more) ≡ Err Unread.Bad
  bad_stays t =
      unfound (bytes ++ more)
      (one_of_3
      (λ b. inl (omega (arith, longer), mark-more (omega arith) ∙ b.1, rw (field_stays 2 Layout.COUNT-AT bytes more b.0) b.2))
      (λ b. inr (inl (omega (arith, longer), mark-more (omega arith) ∙ b.1, rw (field_stays 1 Layout.RESULT-COUNT-AT bytes more b.0) b.2)))
      (λ b. let m = mark-more b.0 in inr (inr (omega (arith, longer), rw m b.1, rw m b.2, rw m b.3, rw m b.4)))
      t)

-- ## How long a record is

marked : (bytes : List ℕ) (r : Record) → Told bytes (Ok r) → mark_in bytes ≡ value 0 (fields_of r)
marked bytes (Stream n) t = ap (value 0) t.0
marked bytes (Completion k s a) t = ap (value 0) t.0
marked bytes (Iso k s n) t = ap (value 0) t.0
marked bytes Close t = ap (value 0) t.0

-- at least, by its mark
least : (r : Record) → (Layout.MARK-LEN ≤ length_of r) × (head_len (value 0 (fields_of r)) ≤ length_of r)
least (Stream n) = (omega arith, omega arith)
least (Completion k s a) = (omega arith, omega arith)
least (Iso k s n) = (omega arith, omega arith)
least Close = (omega arith, omega arith)

-- at most, by its count
most : (r : Record) → count_of r ≤ most_of r → length_of r ≤ Layout.MAX-RECORD-LEN
most (Stream n) h = omega arith
most (Completion k s a) h = omega arith
most (Iso k s n) h = omega arith
most Close h = omega arith

-- and so its head
head-room : (mark : ℕ) → head_len mark ≤ Layout.MAX-RECORD-LEN
head-room mark =
    let Fits : ℕ → Type 0 = λ n. n ≤ Layout.MAX-RECORD-LEN in
    by_cond Fits (eqb mark Layout.STREAM-MARK) (λ _. omega arith)
    λ _.
    by_cond Fits (eqb mark Layout.COMPLETION-MARK) (λ _. omega arith)
    λ _. by_cond Fits (eqb mark Layout.ISO-MARK) (λ _. omega arith) (λ _. omega arith)

-- ## What is wanted

module _ (bytes more : List ℕ) where
  past : (h : Result Record Unread) → Told bytes h → (r : Record) → head_of (bytes ++ more) ≡ Ok r → wanted_in (length bytes) h ≤ length_of r
  past (Ok q) t r e =
      let s = record_stays bytes more q t in
      let p : q ≡ r = cc in
      rw p (omega arith)
  past (Err (Unread.Short n)) t r e =
      let m = sym (marked (bytes ++ more) r (rw e at (told (bytes ++ more)))) in
      let l = least r in
      ⊎_elim (λ a. rw a l.0) (λ a. rw (a.1, ← mark-more bytes more a.0, ← m) l.1) t.1
  past (Err Unread.Bad) t r e =
      let b = bad_stays bytes more t in
      absurd (let z : ◌≡◌ {A = ℕ} 0 1 = cc in omega arith)

  -- no more bytes than the record has
  pub never_past : (r : Record) → read_of (bytes ++ more) ≡ Some r → wanted_of bytes ≤ length_of r
  never_past r e = past (head_of bytes) (told bytes) r (read_head (length (bytes ++ more)) (head_of (bytes ++ more)) r e).0

  settled : (h : Result Record Unread) → Told bytes h → wanted_in (length bytes) h ≤ length bytes → read_of (bytes ++ more) ≡ read_in (length bytes) h
  settled (Ok q) t w =
      rw (record_stays bytes more q t, le-ltb (length (bytes ++ more)) (length_of q) (omega (arith, longer bytes more)), le-ltb (length bytes) (length_of q) w)
  settled (Err (Unread.Short n)) t w = absurd (omega arith)
  settled (Err Unread.Bad) t w = rw (bad_stays bytes more t)

-- where as many are there, what stands behind them changes nothing
pub enough : (bytes : List ℕ) → wanted_of bytes ≤ length bytes → ReadsAlike bytes
enough bytes w more = settled bytes more (head_of bytes) (told bytes) w

room_for : (bytes : List ℕ) (h : Result Record Unread) → Told bytes h → Layout.MAX-RECORD-LEN ≤ length bytes → wanted_in (length bytes) h ≤ length bytes
room_for bytes (Ok r) t l = omega (arith, most r t.1)
room_for bytes (Err (Unread.Short n)) t l = ⊎_elim (λ a. omega arith) (λ a. omega (arith, head-room (mark_in bytes))) t.1
room_for bytes (Err Unread.Bad) t l = omega arith

-- no more than a buffer for the longest record has room for
pub wanted_room : (bytes : List ℕ) → Layout.MAX-RECORD-LEN ≤ length bytes → wanted_of bytes ≤ length bytes
wanted_room bytes l = room_for bytes (head_of bytes) (told bytes) l
