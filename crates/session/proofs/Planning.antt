-- What a piece asks, what was looked up for it, and the plan by both.
use Prim.Native.Nat.{ℕ}
use mathlib.Core.Path.{◌≡◌, ap, ◌∙◌}
use mathlib.Core.List.{List}
use Rattle.std.specs.Prelude.{Option as Maybe}
use Rattle.pending.specs.Pending.{list_of}
use Rattle.pending.specs.declared.list.Pending.{Pending}
use Rattle.pending.specs.declared.look.Look.{Look}
use Rattle.links.specs.declared.link.Link.{Link}
use Rattle.feeding.specs.Asking.{ask_of, look_asked}
use Rattle.feeding.specs.Feeding.{feed_plan}
use Rattle.feeding.specs.Planning.{message_plan}
use Rattle.feeding.specs.declared.ask.Asked.{Asked}

pub planned_by : (k : Link) (l : Pending) (piece : List ℕ) (work reply time : ℕ) (a : Asked) (y : Maybe Look) → a ≡ ask_of k piece → y ≡ look_asked (list_of l) a.key
    → message_plan k l.count a y piece work reply time ≡ feed_plan k l piece work reply time
planned_by k l piece work reply time a y e f =
    let g : y ≡ look_asked (list_of l) (ask_of k piece).key = f ∙ ap (λ (z : Asked). look_asked (list_of l) z.key) e in
    λ i. message_plan k l.count (e i) (g i) piece work reply time
