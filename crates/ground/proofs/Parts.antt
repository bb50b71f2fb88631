-- Writers one after the other, each lent the part of a buffer behind what stands there already.
use Prim.Native.Nat.{ℕ, ◌+◌, ◌-◌, ◌≤◌, ◌<◌}
use mathlib.Core.Path.{◌≡◌, refl, sym, ap, ◌∙◌}
use mathlib.Core.List.{List, [], ◌++◌, append-nil, append_assoc}
use native.Mathlib.Omega.{arith}
use borrow.Author.Tests.{le-leb, lt-leb}
use lib.ListN.{length, take, drop, length-append, length-take, length-drop, take-append-drop, drop_of_length-le}
use lib.Seq.{take_all, take_at, drop_at, drop-drop, length-take-le}
use Rattle.ground.specs.Writing.{fitting, over, Wrote}

-- a buffer with room takes all the bytes
pub has_room : (B d : List ℕ) → length B ≤ length d → fitting B d ≡ B
has_room B d h = rw (le-leb (length B) (length d) h)

-- what a writer owes, where there is room and where there is none
pub wrote_over : (B d x : List ℕ) (n : ℕ) → length B ≤ length d → x ≡ over B d → n ≡ length B → Wrote B d x n
wrote_over B d x n h e k = record { said = rw (has_room B d h) k; left = rw (has_room B d h) e }

pub wrote_none : (B d : List ℕ) → length d < length B → Wrote B d d 0
wrote_none B d h = let e : fitting B d ≡ [] = rw (lt-leb (length B) (length d) h) in record { said = rw e; left = rw e }

-- what its caller learns, where there is room
pub wrote_all : (B d x : List ℕ) (n : ℕ) → length B ≤ length d → Wrote B d x n → x ≡ over B d
wrote_all B d x n h w = rw (has_room B d h) at w.left

pub wrote_count : (B d x : List ℕ) (n : ℕ) → length B ≤ length d → Wrote B d x n → n ≡ length B
wrote_count B d x n h w = rw (has_room B d h) at w.said

-- bytes that take up the whole buffer
pub over-all : (B d : List ℕ) → length B ≡ length d → over B d ≡ B
over-all B d h = rw (drop_of_length-le d {i = length B} (omega arith)) (append-nil B)

-- what stands at a buffer's front, written over it again, and with more behind it
pub over_front : (n : ℕ) (d : List ℕ) → n ≤ length d → over (take n d) d ≡ d
over_front n d h = rw (length-take-le n d h) (take-append-drop n d)

over_again : (W J d : List ℕ) → over (W ++ J) (over W d) ≡ over (W ++ J) d
over_again W J d =
    rw (length-append W J, ← (drop-drop (length J) (length W) (over W d)), drop_at W (drop (length W) d) (length W) refl, drop-drop (length J) (length W) d)

pub front_is : (H d r : List ℕ) (n : ℕ) → length H ≡ n → r ≡ over H d → take n r ≡ H
front_is H d r n h e = rw e (take_at H (drop (length H) d) n h)

pub over-grown : (H J d r x : List ℕ) (n : ℕ) → length H ≡ n → r ≡ over H d → x ≡ over (take n r ++ J) r → x ≡ over (H ++ J) d
over-grown H J d r x n h e o = o ∙ rw (front_is H d r n h e, e) (over_again H J d)

-- W stands at the front of what was D; a callee that was lent the part behind W, to the end, wrote B at its front
pub written_behind : (D out W B ys : List ℕ) (off n : ℕ) → length out ≡ n → length W ≡ off → out ≡ over W D
    → ys ≡ over B (take (n - off) (drop off out))
    → take off out ++ (ys ++ drop (n - off) (drop off out)) ≡ over (W ++ B) D
written_behind D out W B ys off n l w o e =
    let h : length (drop off out) ≤ n - off = simp length-drop (omega arith) in
    rw (drop_of_length-le (drop off out) {i = n - off} h, append-nil ys, e, take_all (n - off) (drop off out) h)
    (rw (o, take_at W (drop (length W) D) off w, drop_at W (drop (length W) D) off w, drop-drop (length B) (length W) D, length-append W B)
    (sym (append_assoc W B (drop (length W + length B) D))))

-- the same by what the callee owes, where there is room
pub written_next : (D out W B ys : List ℕ) (off n count : ℕ) → length out ≡ n → length W ≡ off → out ≡ over W D → off + length B ≤ n
    → Wrote B (take (n - off) (drop off out)) ys count
    → take off out ++ (ys ++ drop (n - off) (drop off out)) ≡ over (W ++ B) D
written_next D out W B ys off n count l w o h e =
    written_behind D out W B ys off n l w o (wrote_all B (take (n - off) (drop off out)) ys count (simp (length-take, length-drop) (omega arith)) e)

-- B put behind the first `off` of an array of n by a callee that was lent the rest of it
pub filled_front : (n : ℕ) (l B ys : List ℕ) (off count : ℕ) → length l ≡ n → off + length B ≤ n → Wrote B (take (n - off) (drop off l)) ys count
    → take (off + length B) (take off l ++ (ys ++ drop (n - off) (drop off l))) ≡ take off l ++ B
filled_front n l B ys off count e h w =
    let W = take off l in
    let k : length W ≡ off = length-take-le off l (omega arith) in
    let o = written_next l l W B ys off n count e k (sym (over_front off l (omega arith))) h w in
    ap (take (off + length B)) o ∙ take_at (W ++ B) (drop (length (W ++ B)) l) (off + length B) (length-append W B ∙ omega arith)
