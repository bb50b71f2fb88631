use native.Mathlib.Omega.{arith}
use Prim.Native.Nat.{ℕ, ◌+◌, ◌-◌, ◌*◌, ◌<◌, ◌≤◌}
use mathlib.Core.Path.{◌≡◌, refl, ◌∙◌}
use mathlib.Core.List.{List, ◌++◌}
use lib.ListN.{length, take, drop, length-append, length-take, length-drop}
use lib.Seq.{length-take-le}
use borrow.Author.Rules.{rules}
use Rattle.ground.proofs.Parts.{wrote_none, wrote_all, wrote_count, wrote_over, written_next}
use Rattle.numerals.specs.Digits.{ascii, hex_of}
use Rattle.numerals.specs.Texts.{TEXT-LEN, text_of}
use Rattle.numerals.specs.declared.text.Text.{Text}
use Rattle.numerals.proofs.Numbers.{hex_length}
use Rattle.numerals.proofs.text.Text.put_bytes.Goals as goal
use Rattle.numerals.proofs.text.Text.put_bytes.Goals.{then-room-at-via-then-room-at, then-room-at-via-else-room-at+then-room-at-2}

text_length : (t : Text) → length t.bytes ≡ TEXT-LEN → t.len ≤ TEXT-LEN → length (text_of t) ≡ t.len
unfolding text_of
text_length t e h = length-take-le t.len t.bytes (omega arith)

-- how long the text is with the digits, and the whole line
front_size : (text bytes : List ℕ) → length (text ++ hex_of bytes) ≡ length text + length bytes * 2
front_size text bytes = length-append text (hex_of bytes) ∙ rw (hex_length bytes)

size : (text bytes : List ℕ) → length ((text ++ hex_of bytes) ++ ascii "\n") ≡ length text + length bytes * 2 + 1
size text bytes = length-append (text ++ hex_of bytes) (ascii "\n") ∙ rw (front_size text bytes)

pub returns-then-room-at : goal.returns-then-room-at
returns-then-room-at c =
    let text = text_of c.args.self in
    let bytes = c.args.bytes.now in
    let n = text_length c.args.self (search rules) c.requires in
    let whole = size text bytes in
    let short : length c.args.out.now < length ((text ++ hex_of bytes) ++ ascii "\n") =
    elim c.then-room-at.branch [
      | then-room-at-via-then-room-at w ↦ omega (arith, n, whole)
      | then-room-at-via-else-room-at+then-room-at-2 w ↦ omega (arith, n, whole)
    ] in
    wrote_none _ _ short

pub returns : goal.returns
returns c =
    let text = text_of c.args.self in
    let bytes = c.args.bytes.now in
    let D = c.args.out.now in
    let x = c.put.new.out in
    let at = c.args.self.len in
    let y = take at x ++ (c.hex.new.out ++ drop (length x - at) (drop at x)) in
    let n = text_length c.args.self (search rules) c.requires in
    let e1 = wrote_all text D x c.put.result (omega (arith, n, size text bytes)) c.put.ensures in
    let xs : length x ≡ length D = c.put.auto.out in
    let h = hex_length bytes in
    let counted : c.hex.result ≡ length bytes * 2 =
    wrote_count (hex_of bytes) (take (length x - at) (drop at x)) c.hex.new.out c.hex.result
    (simp (length-take, length-drop) (omega arith)) c.hex.ensures ∙ h in
    let e2 = written_next D x text (hex_of bytes) c.hex.new.out at (length x) c.hex.result refl n e1 (omega arith) c.hex.ensures in
    let e3 =
    written_next D y (text ++ hex_of bytes) (ascii "\n") c.write.new.out (at + c.hex.result) (length y) c.write.result refl
    (front_size text bytes ∙ omega (arith, n)) e2 (omega arith) c.write.ensures in
    wrote_over ((text ++ hex_of bytes) ++ ascii "\n") D _ (at + c.hex.result + 1) (omega (arith, n, size text bytes)) e3 (omega (arith, n, size text bytes))
