-- The fields of a request and of a header, by the message's bytes.
use Prim.Native.Nat.{ℕ, ◌≤◌}
use native.Mathlib.Omega.{arith}
use mathlib.Core.List.{List, ◌++◌}
use mathlib.Core.Path.{◌≡◌, refl}
use lib.ListN.{length}
use Rattle.wire.specs.Codes
use Rattle.wire.proofs.Heads.{field_stays}
use Rattle.messages.specs.Messages.{request_of, header_of, unlink_seqnum, unlink_seqnum_of}

-- a request's head stays as more bytes come behind it
pub request_stays : (p q : List ℕ) → Codes.OP-LEN ≤ length p → request_of (p ++ q) ≡ request_of p
request_stays p q h =
    λ i.
    record {
      version = field_stays 2 Codes.VERSION-AT p q (omega arith) i;
      code = field_stays 2 Codes.CODE-AT p q (omega arith) i;
      status = field_stays 4 Codes.OP-STATUS-AT p q (omega arith) i;
    }

pub unlink-seqnum : (m : List ℕ) → unlink_seqnum (header_of m) ≡ unlink_seqnum_of m
unlink-seqnum m = refl
