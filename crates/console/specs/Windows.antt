-- The window of a tape that is in the input buffer.
use Rattle.std.specs.Prelude.{ℕ, ◌-◌, ◌≤◌, ◌<◌, ◌≡◌, true, List, false, ◌⊎◌, length, take, drop}
use Rattle.tape.specs.Tape.{wanted_of, ReadsAlike}
use Rattle.console.specs.declared.input.Window.{Window}

-- The bytes of a window.
abbrev pub window_of : Window → List ℕ → List ℕ
window_of w buffer = take (w.end - w.at) (drop w.at buffer)

-- A window lies within the buffer.
abbrev pub Inside : Window → List ℕ → Type 0
Inside w buffer = (w.at ≤ w.end) × (w.end ≤ length buffer)

-- A window was refilled: its bytes are still there, at its front; the record there reads as it does on the whole tape, unless the
-- input is taken for ended, which it is only where there was room for more. (What came in isn't stated: std says nothing of it.)
pub record Refilled (w r : Window) (before after : List ℕ) : Type 0 where
  pub inside : Inside r after
  pub kept : take (w.end - w.at) (window_of r after) ≡ window_of w before
  pub settled : (r.over ≡ true) ⊎ ReadsAlike (window_of r after)
  pub ended : r.over ≡ true → (w.over ≡ true) ⊎ (r.end < length after)

-- A read failed, which it may only where the input hadn't ended and more of the tape was wanted: the window's bytes are at the front.
pub record Unread (w : Window) (before after : List ℕ) : Type 0 where
  pub going : w.over ≡ false
  pub wanted : length (window_of w before) < wanted_of (window_of w before)
  pub kept : take (w.end - w.at) after ≡ window_of w before
