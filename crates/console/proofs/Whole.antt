-- A record that was read lies within the bytes that it was read from.
use Prim.Native.Nat.{ℕ, ◌≤◌}
use native.Mathlib.Omega.{arith}
use mathlib.Core.Path.{◌≡◌}
use mathlib.Core.Bool.{Bool, true, false, cond}
use mathlib.Core.List.{List}
use lib.Dec.{leb}
use lib.ListN.{length}
use Rattle.std.specs.Prelude.{Some, None}
use Rattle.tape.specs.Layout.{MAX-RECORDS}
use Rattle.tape.specs.Tape.{length_of, read_of, read_behind}
use Rattle.tape.specs.declared.reader.Record.{Record}
use Rattle.tape.proofs.Reading.{read_whole}

by : (bytes : List ℕ) (r : Record) (c : Bool) → cond c None (read_of bytes) ≡ Some r → length_of r ≤ length bytes
by bytes r true e = let z : ◌≡◌ {A = ℕ} 0 1 = cc in omega arith
by bytes r false e = read_whole bytes r e

pub next_whole : (before : ℕ) (bytes : List ℕ) (r : Record) → read_behind before bytes ≡ Some r → length_of r ≤ length bytes
next_whole before bytes r e = by bytes r (leb MAX-RECORDS before) e
