use Prim.Native.Nat.{◌-◌, ◌≤◌}
use mathlib.Core.Path.{◌≡◌}
use lib.ListN.{length, drop}
use Rattle.model.specs.Cut.{lent}
use Rattle.session.specs.Views.{view_of}
use Rattle.player.specs.Play.{play_stream}
use Rattle.player.proofs.Streams.{Going}
use Rattle.player.proofs.feed.play_stream.Given as goal

abbrev pub invariant-loop-turn : goal.invariant-loop-turn
invariant-loop-turn l =
    (l.at ≤ length l.bytes)
    × (length l.work ≡ length l.initial.work)
    × (length l.reply ≡ length l.initial.reply)
    × (length l.out ≡ length l.initial.out)
    × Going (play_stream l.traced (length l.bytes) (view_of l.initial.s) (lent l.initial.work l.initial.reply) l.bytes)
    (play_stream l.traced (length l.bytes - l.turn) (view_of l.s) (lent l.work l.reply) (drop l.at l.bytes)) l.initial.out l.out l.len
