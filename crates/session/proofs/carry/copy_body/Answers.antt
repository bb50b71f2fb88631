use Rattle.session.proofs.Writing.{written_sets}
use lib.Seq.{length-take-le}
use lib.ListN.{length, take, drop, length-drop}
use Prim.Native.Nat.{◌-◌}
use native.Mathlib.Omega.{arith}
use mathlib.Core.Path.{◌≡◌, refl}
use Rattle.session.proofs.carry.copy_body.Goals as goal

pub returns-then-from-to : goal.returns-then-from-to
returns-then-from-to c =
    let a = c.args in
    let n : length (take (a.to - a.from) (drop a.from a.piece.now)) ≡ a.to - a.from =
    length-take-le _ _ (rw length-drop (omega (arith, c.requires.0))) in
    written_sets a.work.now (take (a.to - a.from) (drop a.from a.piece.now)) c.write.new.out a.at (length a.work.now) c.write.result
    refl (omega (arith, n, c.requires.1)) c.write.ensures
