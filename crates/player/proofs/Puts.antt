-- Lines put one after the other.
use Prim.Native.Nat.{ℕ, ◌+◌, ◌-◌, ◌≤◌}
use mathlib.Core.Path.{◌≡◌, refl, sym, ◌∙◌}
use mathlib.Core.Bool.{Bool, true}
use mathlib.Core.List.{List, ◌++◌}
use native.Mathlib.Omega.{arith}
use lib.ListN.{length, take, drop, length-append, length-take, length-drop}
use lib.Seq.{take_all, length-take-le}
use Rattle.ground.specs.Writing.{Wrote}
use Rattle.ground.proofs.Parts.{wrote_all, wrote_count, written_behind}
use Rattle.player.specs.Prints.{Puts, with_traces}

-- the part of a slice from a place to its end
abbrev pub rest : List ℕ → ℕ → List ℕ
rest out n = take (length out - n) (drop n out)

pub rest-drop : (out : List ℕ) (n : ℕ) → rest out n ≡ drop n out
rest-drop out n = take_all (length out - n) (drop n out) (rw length-drop (omega arith))

-- the slice when a callee that was lent this part left these bytes there
abbrev pub behind : List ℕ → ℕ → List ℕ → List ℕ
behind out n ys = take n out ++ (ys ++ drop (length out - n) (drop n out))

-- by a writer of one line
pub puts_wrote : (B d x : List ℕ) (n : ℕ) → Wrote B d x n → Puts B d x n
puts_wrote B d x n w =
    record {
      within = rw (w.left, w.said, length-append) (omega arith);
      put = λ h. (wrote_count B d x n h w, wrote_all B d x n h w);
    }

module _ {A B entry out ys : List ℕ} {n m : ℕ} (p : Puts A entry out n) (q : Puts B (rest out n) ys m)
    (l : length out ≡ length entry) (k : length ys ≡ length (rest out n)) where
  -- by a callee that was lent the part behind what was put first
  pub puts_next : Puts (A ++ B) entry (behind out n ys) (n + m)
  puts_next =
      let e : length ys ≡ length out - n = k ∙ simp (length-take, length-drop) (omega arith) in
      record {
        within = simp (length-append, length-take-le n out (omega (arith, p.within))) (omega (arith, q.within));
        put = λ h.
            let s : length A + length B ≤ length entry = rw length-append at h in
            let a = p.put (omega arith) in
            let b = q.put (simp (length-take, length-drop) (omega (arith, a.0))) in
            (omega (arith, a.0, b.0, length-append A B), written_behind entry out A B ys n (length out) refl (sym a.0) a.1 b.1);
      }

  -- the same of what only a trace adds
  pub puts_traced : {traced : Bool} → traced ≡ true → Puts (with_traces traced A B) entry (behind out n ys) (n + m)
  puts_traced t = rw t puts_next
