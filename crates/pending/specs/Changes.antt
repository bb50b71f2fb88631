-- The changes of the list of pending URBs, as one form: what moves down, what is set, what is blank, and the count.
use Rattle.std.specs.Prelude.{ℕ, suc, ◌+◌, ◌-◌, cond, ◌&&◌, List, ◌++◌, map, ltb, leb, length, take, drop, set}
use Rattle.std.proofs.Math.Seq.{paste}
use Rattle.pending.specs.declared.urb.Urb.{Urb}
use Rattle.pending.specs.declared.list.Pending.{Pending}
use Rattle.pending.specs.declared.change.Change.{Change}
use Rattle.limits.specs.Limits.{MAX-PENDING}
use Rattle.pending.specs.Pending.{blank}

-- Those behind place `from`, up to place `last`, one place down; nothing moves where `last` is no place.
-- (`paste d at s n` has the first n of s in d, from place at on.)
abbrev pub moved : (from last : ℕ) → List Urb → List Urb
moved from last us = cond (ltb last (length us)) (paste us from (drop (suc from) us) (last - from)) us

-- The first n places blank.
abbrev pub blanked : ℕ → List Urb → List Urb
blanked n us = map (λ u. blank) (take n us) ++ drop n us

-- The list after a change. (A `set` past the end stores nothing.)
unfoldable pub changed : Pending → Change → Pending
changed p c = record { urbs = blanked c.dropped (set (moved c.from c.last p.urbs) c.place c.urb); count = c.count }

-- ## The four changes of a list that has n

-- The list stays as it is.
abbrev pub keeps : ℕ → Change
keeps n = record { from = 0; last = 0; place = MAX-PENDING; urb = blank; dropped = 0; count = n }

-- One more at the end. A full list stays as it is.
unfoldable pub appends : ℕ → Urb → Change
appends n u = cond (ltb n MAX-PENDING) (record { from = 0; last = 0; place = n; urb = u; dropped = 0; count = n + 1 }) (keeps n)

-- The one at place i taken out: those behind it move down, and the place that this frees is blank. The list stays as it is where
-- there is none at the place, and where the count is past the array.
unfoldable pub removes : (n i : ℕ) → Change
removes n i =
    cond (ltb i n && leb n MAX-PENDING)
    (record { from = i; last = n - 1; place = n - 1; urb = blank; dropped = 0; count = n - 1 })
    (keeps n)

-- All taken out, and their places blank.
abbrev pub clears : ℕ → Change
clears n = record { from = 0; last = 0; place = MAX-PENDING; urb = blank; dropped = n; count = 0 }
