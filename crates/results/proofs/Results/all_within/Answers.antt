use Prim.Native.Nat.{ℕ, ◌<◌, ◌≤◌}
use mathlib.Core.Logic.{◌↔◌}
use lib.ListN.{length}
use borrow.Author.Rules.{rules}
use Rattle.std.specs.Bool.{IsTrue}
use Rattle.packets.specs.Packets.{packet_in}
use Rattle.results.specs.Results.{result_in}
use Rattle.results.proofs.Fitting.{within_each}
use Rattle.results.proofs.Results.all_within.Goals as goal

pub returns : goal.returns
returns c =
    let rs = c.listed.result.now in
    let each : IsTrue c.all.result ↔ ((i : ℕ) → i < length rs → (result_in rs i).actual ≤ (packet_in c.args.iso.now i).length) = search rules in
    within_each c.args.iso.now c.args.self.now c.all.result (rw c.listed.ensures.front at each)
