-- The head, and each device straight behind the last.
use Prim.Native.Nat.{ℕ, ◌<◌, ◌-◌, ◌+◌}
use native.Mathlib.Omega.{arith}
use mathlib.Core.Path.{◌≡◌, refl, ap, sym, ◌∙◌}
use mathlib.Core.Bool.{true, and-eq-true_iff}
use mathlib.Core.List.{List, [], ◌∷◌, ◌++◌, append_assoc, map}
use lib.ListN.{length, take, drop, get_or, length-append, length-take, length-drop, get_or-map}
use lib.Seq.{get_or-take}
use borrow.Rule.Slice.PartMut.{same_len_mid}
use Rattle.ground.specs.Lists.{every, joined}
use Rattle.ground.proofs.Parts.{written_behind}
use Rattle.ground.proofs.Lists.{joined-more}
use Rattle.ground.proofs.Walks.{next}
use Rattle.exports.specs.declared.device.Device.{Device}
use Rattle.exports.specs.Devices.{no_device}
use Rattle.records.specs.Records.{records_of}
use Rattle.listing.specs.Lists.{LIST-HEAD-LEN, few, listed_device}
use Rattle.listing.proofs.Lists.{few_known, every-left}
use Rattle.listing.proofs.write_list.Goals as goal

-- a turn of the loop, at the device of place i
module _ (ds : List Device) (i : ℕ) (k : i < length ds) where
  abbrev device : Device
  device = get_or ds i no_device

  turn : drop i ds ≡ device ∷ drop (i + 1) ds
  turn = next (λ l. l) no_device ds i k

  few_here : every few ds ≡ true → few device ≡ true
  few_here e = ((and-eq-true_iff (few device) (every few (drop (i + 1) ds))).0 (rw turn at (every-left few i ds e))).0

  -- what is written and what is left is the whole
  spent : (at : ℕ) → at + length (joined listed_device (drop i ds)) ≡ LIST-HEAD-LEN + length (joined listed_device ds)
      → at + (length (listed_device device) + length (joined listed_device (drop (i + 1) ds))) ≡ LIST-HEAD-LEN + length (joined listed_device ds)
  spent at e = rw (turn, length-append (listed_device device) (joined listed_device (drop (i + 1) ds))) at e

  bytes_here : (all : List (List (List ℕ))) → take (length ds) all ≡ map records_of ds → get_or all i [] ≡ records_of device
  bytes_here all e = sym (get_or-take (length ds) all i [] k) ∙ ap (λ l. get_or l i []) e ∙ get_or-map records_of ds i no_device

pub write_device-at-requires : goal.write_device-at-requires
write_device-at-requires c =
    let ds = c.args.devices.now in
    let t = c.loop-i in
    let k = c.loop-i-test.true in
    let s = spent ds t.i k t.at t.invariant.0 in (
      few_known (get_or ds t.i no_device) (few_here ds t.i k c.requires.each),
      bytes_here ds t.i k c.args.interfaces c.requires.bytes,
      rw (length-take, length-drop) (omega (arith, s, c.requires.room, t.invariant.3, c.write.auto.out)),
    )

pub loop-i-preserved : goal.loop-i-preserved
loop-i-preserved c =
    let ds = c.args.devices.now in
    let t = c.loop-i in
    let s = spent ds t.i c.loop-i-test.true t.at t.invariant.0 in
    let r₀ = c.write.new.out in
    let d = get_or ds t.i no_device in
    let w = c.write_device-at in
    let W = take LIST-HEAD-LEN r₀ in
    let J = joined listed_device (take t.i ds) in
    let more : W ++ J ++ listed_device d ≡ W ++ joined listed_device (take (t.i + 1) ds) =
    append_assoc W J (listed_device d) ∙ ap (λ (b : List ℕ). W ++ b) (joined-more listed_device ds t.i no_device c.loop-i-test.true) in
    let put = written_behind r₀ t.reply (W ++ J) (listed_device d) w.new.out t.at _ refl t.invariant.1 t.invariant.2 w.ensures.out_after in (
      omega (arith, s, w.ensures.value),
      rw (← more, length-append (W ++ J) (listed_device d)) (omega (arith, t.invariant.1, w.ensures.value)),
      rw more at put,
      same_len_mid t.at (length t.reply - t.at) t.reply w.new.out w.auto.out ∙ t.invariant.3,
    )
