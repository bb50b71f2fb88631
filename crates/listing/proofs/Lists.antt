-- The list reply: which tables have one, and what it is.
use Prim.Native.Nat.{ℕ, zero, suc, ◌+◌, ◌<◌, ◌≤◌}
use mathlib.Core.Path.{◌≡◌, refl, ap, ◌∙◌}
use mathlib.Core.Bool.{Bool, true, false, cond, and-eq-true_iff}
use mathlib.Core.List.{List, [], ◌∷◌, ◌++◌}
use native.Mathlib.Omega.{arith}
use borrow.Author.Tests.{le-leb, lt-leb, leb-true}
use lib.ListN.{length, drop, length-append}
use lib.Seq.{length-take-le}
use Rattle.std.specs.Prelude.{Option, Some, None, IfSome}
use Rattle.std.specs.List.{flat_map}
use Rattle.ground.specs.Lists.{joined, every}
use Rattle.ground.specs.Writing.{Wrote}
use Rattle.ground.proofs.Parts.{wrote_over}
use Rattle.ground.proofs.Lists.{joined_length}
use Rattle.exports.specs.declared.device.Device.{Device}
use Rattle.exports.specs.declared.device.Table.{Table}
use Rattle.limits.specs.Limits.{MAX-DEVICES, MAX-INTERFACES}
use Rattle.exports.specs.Devices.{devices_of, interfaces_of}
use Rattle.records.specs.Records.{INTERFACE-LEN, Shaped, device_record, interface_record}
use Rattle.records.proofs.Records.{record_length}
use Rattle.tables.proofs.Good.{as_many}
use Rattle.listing.specs.Lists.{LIST-HEAD-LEN, MAX-LIST, few, listable, list_head, listed_device, listed_size, list_reply}

-- ## A device in a list

pub few_known : (d : Device) → few d ≡ true → d.bNumInterfaces ≤ MAX-INTERFACES
few_known d h = let k = leb-true d.bNumInterfaces _ h in omega (arith, k)

pub listed_length : (d : Device) → Shaped d → d.bNumInterfaces ≤ MAX-INTERFACES → length (listed_device d) ≡ listed_size d
unfolding listed_device
listed_length d s h =
    length-append (device_record d) (joined interface_record (interfaces_of d))
    ∙ rw (
      record_length d s,
      joined_length interface_record INTERFACE-LEN (λ _. refl) (interfaces_of d),
      length-take-le d.bNumInterfaces d.interfaces (omega (arith, s.2)),
    )

-- the bytes of its interfaces, put together as a slice of arrays is
pub flat : (rs : List (List ℕ)) → flat_map (λ r. r) rs ≡ joined (λ r. r) rs
flat [] = refl
flat (r ∷ rs) = ap (λ (l : List ℕ). r ++ l) (flat rs)

-- ## A test that every element passes, and what is left of a list

pub every-left : {A : Type 0} (t : A → Bool) (i : ℕ) (xs : List A) → every t xs ≡ true → every t (drop i xs) ≡ true
every-left t zero xs h = h
every-left t (suc i) [] h = refl
every-left t (suc i) (x ∷ xs) h = every-left t i xs ((and-eq-true_iff (t x) (every t xs)).0 h).1

-- ## The whole reply

-- where a table has no list reply, nothing is written
no_list : (t : Table) → listable t ≡ false → list_reply t ≡ []
unfolding list_reply
no_list t h = rw h

pub no_list_length : (t : Table) → listable t ≡ false → length (list_reply t) ≡ 0
no_list_length t h = ap length (no_list t h)

pub wrote_no_list : (t : Table) (d : List ℕ) → listable t ≡ false → Wrote (list_reply t) d d 0
wrote_no_list t d h = rw (no_list t h) (wrote_over [] d d 0 (omega arith) refl refl)

pub too_many : (t : Table) → MAX-DEVICES < t.count → listable t ≡ false
too_many t h = rw (lt-leb t.count MAX-DEVICES h)

module _ (t : Table) (h : t.count ≤ MAX-DEVICES) where
  pub listable_by : (b : Bool) → every few (devices_of t) ≡ b → listable t ≡ b
  listable_by b e = rw (le-leb t.count MAX-DEVICES h, e)

  pub list_is : every few (devices_of t) ≡ true → list_reply t ≡ list_head t.count ++ joined listed_device (devices_of t)
  unfolding list_reply
  list_is e = rw (listable_by true e)

  pub list_length : every few (devices_of t) ≡ true → length (list_reply t) ≡ LIST-HEAD-LEN + length (joined listed_device (devices_of t))
  list_length e = ap length (list_is e) ∙ length-append (list_head t.count) (joined listed_device (devices_of t))

-- what the code's length of a table's devices says of its list reply
module _ (t : Table) (ds : List Device) (found : Option ℕ) (is : ds ≡ devices_of t) (h : t.count ≤ MAX-DEVICES) where
  abbrev Said : Type 0
  Said = found ≡ cond (every few ds) (Some (LIST-HEAD-LEN + length (joined listed_device ds))) None

  pub none_listed : Said → found ≡ None → listable t ≡ false
  none_listed e z = at (every few (devices_of t)) refl
    where
      at : (b : Bool) → every few (devices_of t) ≡ b → listable t ≡ false
      at false k = listable_by t h false k
      at true k = let q : ◌≡◌ {A = ℕ} 0 1 = cc (rw (is, k) at e, z) in absurd (omega arith)

  pub all_listed : (len : ℕ) → Said → found ≡ Some len → (every few ds ≡ true) × (LIST-HEAD-LEN + length (joined listed_device ds) ≡ len)
  all_listed len e z = at (every few ds) refl
    where
      at : (b : Bool) → every few ds ≡ b → (every few ds ≡ true) × (LIST-HEAD-LEN + length (joined listed_device ds) ≡ len)
      at true k = (k, cc (rw k at e, z))
      at false k = let q : ◌≡◌ {A = ℕ} 0 1 = cc (rw k at e, z) in absurd (omega arith)

  pub reply_length : (len : ℕ) → Said → found ≡ Some len → length (list_reply t) ≡ len
  reply_length len e z = let k = rw is at (all_listed len e z) in list_length t h k.0 ∙ k.1

  pub list_bound : Said → IfSome found (λ len. len ≤ MAX-LIST) → length (list_reply t) ≤ MAX-LIST
  list_bound e u = at found refl
    where
      at : (o : Option ℕ) → found ≡ o → length (list_reply t) ≤ MAX-LIST
      at None z = omega (arith, no_list_length t (none_listed e z))
      at (Some len) z = let v : len ≤ MAX-LIST = rw z at u in omega (arith, v, reply_length len e z)

  -- the whole reply, by the devices that the code has in hand
  pub whole : length t.devices ≡ MAX-DEVICES → every few ds ≡ true → list_reply t ≡ list_head (length ds) ++ joined listed_device ds
  whole l e = rw (is, as_many t l h) (list_is t h (rw is at e))

-- what the check needs of a table that has no list reply, and of the length of one that has
pub ruleset told = (too_many, none_listed, wrote_no_list, no_list_length, list_bound)
