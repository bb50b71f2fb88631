use Rattle.std.proofs.Common.{rules, ◌≡◌, length, arith, refl}
use lib.Seq.{set_out}
use Rattle.limits.specs.Limits.{MAX-PENDING}
use Rattle.pending.specs.Changes.{changed}
use Rattle.pending.proofs.list.Pending.changed.Goals as goal
use Rattle.pending.proofs.list.Pending.changed.Goals.{then-c-lt-MAX_PENDING, else-c-lt-MAX_PENDING}

pub returns : goal.returns
unfolding changed
returns c =
    let size : length c.shift_down.new.urbs ≡ MAX-PENDING = search rules in
    elim c.if-c-lt-MAX_PENDING.branch [
      | then-c-lt-MAX_PENDING w ↦ rw (c.blank_first.ensures, w.self-is, c.shift_down.ensures) refl
      | else-c-lt-MAX_PENDING w ↦ rw (
        c.blank_first.ensures,
        w.self-is,
        ← c.shift_down.ensures,
        set_out c.shift_down.new.urbs c.args.c.place c.args.c.urb (omega (arith, size, w.if-c-lt-MAX_PENDING.false)),
      ) refl
    ]
