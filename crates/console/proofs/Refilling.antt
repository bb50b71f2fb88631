-- A window before and after more of the tape was read.
use Prim.Native.Nat.{ℕ, ◌+◌, ◌-◌, ◌≤◌}
use native.Mathlib.Omega.{arith}
use mathlib.Core.Path.{◌≡◌, refl, sym, ◌∙◌}
use mathlib.Core.Bool.{Bool, true, false}
use mathlib.Core.List.{List}
use mathlib.Core.Logic.{◌⊎◌, inl, inr}
use lib.Dec.{ltb}
use lib.ListN.{length, take, drop, length-take, length-drop}
use lib.Seq.{take-take, take_at, length-take-le}
use Rattle.std.specs.List.{copy_within}
use borrow.Author.Tests.{ltb-true, ltb-false}
use Rattle.tape.specs.Layout
use Rattle.tape.specs.Tape.{ReadsAlike}
use Rattle.tape.proofs.Wanted.{enough, wanted_room}
use Rattle.console.specs.Windows.{window_of, Inside, Refilled}
use Rattle.console.specs.declared.input.Window.{Window}

-- the window, copied to the front, however its place is written
pub copied : (buffer : List ℕ) (from at end : ℕ) → from ≡ at → at ≤ end → end ≤ length buffer
    → take (end - at) (copy_within buffer from end 0) ≡ take (end - at) (drop at buffer)
copied buffer from at end e h k =
    let n = end - at in
    rw e (take_at (take n (drop at buffer)) (drop (0 + n) buffer) n (length-take-le n (drop at buffer) (simp length-drop (omega arith))))

-- nothing was read
pub as_it_was : (w : Window) (buffer : List ℕ) → Inside w buffer → (w.over ≡ true) ⊎ ReadsAlike (window_of w buffer) → Refilled w w buffer buffer
as_it_was w buffer i s =
    record {
      inside = i;
      kept = take-take (w.end - w.at) (w.end - w.at) (drop w.at buffer) (omega arith);
      settled = s;
      ended = λ e. inl e;
    }

module _ (w : Window) (before after : List ℕ) (got : ℕ) where
  abbrev left : ℕ
  left = w.end - w.at

  abbrev next : Bool → Window
  next over = record { at = 0; end = left + got; over = over }

  -- the buffer is full, or the input has ended
  pub read_on : Inside w before → Layout.MAX-RECORD-LEN ≤ length before → length after ≡ length before → left + got ≤ length before
      → take left after ≡ window_of w before
      → (over : Bool) → over ≡ ltb (left + got) (length before) → Refilled w (next over) before after
  read_on i m e h k over o =
      record {
        inside = (omega arith, omega arith);
        kept = take-take left (left + got - 0) after (omega arith) ∙ k;
        settled = at over o;
        ended = λ t. inr (omega (arith, ltb-true (left + got) (length before) (sym o ∙ t)));
      }
    where
      at : (c : Bool) → c ≡ ltb (left + got) (length before) → (c ≡ true) ⊎ ReadsAlike (window_of (next c) after)
      at true p = inl refl
      at false p =
          let full = ltb-false (left + got) (length before) (sym p) in
          let l : length (window_of (next false) after) ≡ length before = length-take (left + got - 0) after ∙ omega arith in
          inr (enough (window_of (next false) after) (wanted_room (window_of (next false) after) (omega (arith, l))))
