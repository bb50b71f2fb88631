-- Where everything stands in a list reply: each device straight after the last.
use Prim.Native.Nat.{ℕ, ◌+◌, ◌≤◌}
use mathlib.Core.Path.{◌≡◌, refl, ap, ◌∙◌}
use mathlib.Core.Bool.{true, and-eq-true_iff}
use mathlib.Core.List.{List, [], ◌∷◌, ◌++◌}
use lib.ListN.{length, drop, length-append}
use lib.Seq.{drop_at, drop-drop}
use Rattle.ground.specs.Lists.{joined, every}
use Rattle.limits.specs.Limits.{MAX-DEVICES}
use Rattle.exports.specs.Devices.{devices_of}
use Rattle.exports.specs.declared.device.Device.{Device}
use Rattle.exports.specs.declared.device.Table.{Table}
use Rattle.records.specs.Records.{Shaped}
use Rattle.listing.specs.Lists.{LIST-HEAD-LEN, few, listed_device, listed_size, list_size, list_head, list_reply}
use Rattle.listing.proofs.Lists.{few_known, listed_length, list_is, list_length}

-- every device of a list is as its types say
abbrev pub AllShaped : List Device → Type 0
AllShaped [] = Unit
AllShaped (d ∷ ds) = Shaped d × AllShaped ds

pub joined-size : (ds : List Device) → AllShaped ds → every few ds ≡ true → length (joined listed_device ds) ≡ list_size ds
joined-size [] s h = refl
joined-size (d ∷ ds) s h =
    let b = (and-eq-true_iff (few d) (every few ds)).0 h in
    length-append (listed_device d) (joined listed_device ds) ∙ rw (listed_length d s.0 (few_known d b.0), joined-size ds s.1 b.1)

-- the i-th device stands behind the sizes of those before it
pub joined_at : (before : List Device) (d : Device) (after : List Device) → AllShaped before → every few before ≡ true
    → drop (list_size before) (joined listed_device (before ++ d ∷ after)) ≡ listed_device d ++ joined listed_device after
joined_at [] d after s h = refl
joined_at (b ∷ before) d after s h =
    let p = (and-eq-true_iff (few b) (every few before)).0 h in
    let n = listed_length b s.0 (few_known b p.0) in
    rw (
      ← (drop-drop (list_size before) (listed_size b) (listed_device b ++ joined listed_device (before ++ d ∷ after))),
      drop_at (listed_device b) (joined listed_device (before ++ d ∷ after)) (listed_size b) n,
    )
    (joined_at before d after s.1 p.1)

-- the whole reply: its length, and where each device stands
module _ (t : Table) (h : t.count ≤ MAX-DEVICES) (e : every few (devices_of t) ≡ true) where
  pub list-size : AllShaped (devices_of t) → length (list_reply t) ≡ LIST-HEAD-LEN + list_size (devices_of t)
  list-size s = list_length t h e ∙ ap (λ (n : ℕ). LIST-HEAD-LEN + n) (joined-size (devices_of t) s e)

  pub device-at : (before : List Device) (d : Device) (after : List Device) → devices_of t ≡ before ++ d ∷ after → AllShaped before → every few before ≡ true
      → drop (LIST-HEAD-LEN + list_size before) (list_reply t) ≡ listed_device d ++ joined listed_device after
  device-at before d after k s f =
      rw (
        list_is t h e,
        k,
        ← (drop-drop (list_size before) LIST-HEAD-LEN (list_head t.count ++ joined listed_device (before ++ d ∷ after))),
        drop_at (list_head t.count) (joined listed_device (before ++ d ∷ after)) LIST-HEAD-LEN refl,
      )
      (joined_at before d after s f)
