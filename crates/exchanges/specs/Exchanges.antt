-- The known exchanges of the rules that are marked with a star: what is done, and what must be seen, bytes written out.
use Rattle.std.specs.Prelude.{ℕ, zero, suc, ◌-◌, Bool, true, false, List, [], ◌∷◌, ◌++◌, map, ◌≡◌, length, take, replicate}
use Rattle.std.proofs.Math.Option.{none, some}
use Rattle.wire.specs.BigEndian.{bytes_of}
use Rattle.ground.specs.Lists.{joined, padded}
use Rattle.wire.specs.Codes.{BUSID-LEN}
use Rattle.exports.specs.declared.device.Table.{Table}
use Rattle.tape.specs.Table.{tape_device, tape_table}
use Rattle.packets.specs.Packets.{in_array}
use Rattle.pending.specs.declared.counts.Numbers.{Numbers}
use Rattle.pending.specs.declared.urb.Urb.{Urb}
use Rattle.limits.specs.Limits
use Rattle.verdicts.specs.Verdicts.{fault}
use Rattle.model.specs.State.{closed, numbers_of}
use Rattle.model.specs.Answers.{Outcome, done, Event, list, import, submit, answer, unlink, break}
use Rattle.model.specs.Acts.{Buffers, feed_of, plain}
use Rattle.model.specs.Book.{Call, feed, complete}
use Rattle.model.specs.Corollaries.{session_from}

-- ## What is done

-- The tables, with every place of their arrays, as the code has them: the tape's, and one like it that exports nothing.
abbrev pub nothing_exported : Table
nothing_exported = record { devices = replicate Limits.MAX-DEVICES tape_device; count = 0 }

-- A busid with zeros behind it.
abbrev pub busid : List ℕ → List ℕ
busid bytes = padded BUSID-LEN bytes

-- Buffers of the least sizes, the reply's bytes all 0xee.
abbrev pub lent_buffers : Buffers
lent_buffers = record { work = replicate Limits.WORK-LEN 0; reply = replicate Limits.REPLY-LEN 0xee }

-- At time 0, as the tape gives it.
abbrev pub fed : List ℕ → Call
fed piece = feed piece lent_buffers 0

abbrev pub words : List ℕ → List ℕ
words ws = joined (bytes_of 4) ws

abbrev pub import_of : List ℕ → List ℕ
import_of name = 0x01 ∷ 0x11 ∷ 0x80 ∷ 0x03 ∷ 0 ∷ 0 ∷ 0 ∷ 0 ∷ busid name

-- The tape's device is attached.
abbrev pub attached : Call
attached = fed (import_of (0x31 ∷ 0x2d ∷ 0x31 ∷ []))

-- the kernel document's CmdIntrIN with another seqnum, devid, ep and length.
abbrev pub intr_in : ℕ → ℕ → ℕ → ℕ → List ℕ
intr_in seqnum devid ep size = words (1 ∷ seqnum ∷ devid ∷ 1 ∷ ep ∷ 0x200 ∷ size ∷ 0xffffffff ∷ 0 ∷ 4 ∷ 0 ∷ 0 ∷ [])

-- An unlink, with the right devid and zero padding.
abbrev pub unlink_of : ℕ → ℕ → List ℕ
unlink_of seqnum target = words (2 ∷ seqnum ∷ 0x0001000f ∷ 0 ∷ 0 ∷ target ∷ 0 ∷ 0 ∷ 0 ∷ 0 ∷ 0 ∷ 0 ∷ [])

-- As many submits as asked, with seqnums from one on.
abbrev pub submits : ℕ → ℕ → List Call
submits zero from = []
submits (suc n) from = fed (intr_in from 0x0001000f 1 64) ∷ submits n (suc from)

abbrev pub returns : ℕ → Call
returns ticket = complete (record { ticket = ticket; status = 0; actual = 0; kind = plain; payload = []; header = replicate Limits.HEADER-ROOM 0 })

-- ## What is seen of the last feed

pub record Seen : Type 0 where
  pub event : Outcome Event
  -- the reply buffer's first 64 bytes at exit
  pub bytes : List ℕ
  pub closed : Bool
  pub numbers : Numbers

-- A case: the table, the calls before, the piece that is fed last, and what must be seen of that.
pub record Exchange : Type 0 where
  pub table : Table
  pub before : List Call
  pub last : List ℕ
  pub seen : Seen

abbrev pub seen_of : Exchange → Seen
seen_of x =
    let r = feed_of (session_from x.table x.before) lent_buffers x.last 0 in
    record { event = r.event; bytes = take 64 r.buffers.reply; closed = closed r.next; numbers = numbers_of r.next }

abbrev pub said : Exchange → Seen
said x = x.seen

-- ## The cases

abbrev pub counts : ℕ → ℕ → ℕ → ℕ → ℕ → Numbers
counts a p r u d = record { accepted = a; pending = p; returned = r; unlinked = u; dropped = d }

-- Bytes of a reply and, behind them, those of the buffer as it was lent.
abbrev pub reply : List ℕ → List ℕ
reply bytes = bytes ++ replicate (64 - length bytes) 0xee

abbrev pub zero_bytes : ℕ → List ℕ
zero_bytes n = replicate n 0

-- The record of CmdIntrIN.
abbrev pub intr_urb : ℕ → ℕ → ℕ → ℕ → Urb
intr_urb ticket seqnum ep size =
    record {
      ticket = ticket;
      transfer =
          record { seqnum = seqnum; direction = 1; ep = ep; flags = 0x200; length = size; start = 0xffffffff; packets = 0; interval = 4 };
      setup = zero_bytes 8;
      arrival = 0;
      iso = in_array [];
    }

abbrev pub minus_19 : List ℕ
minus_19 = 0xff ∷ 0xff ∷ 0xff ∷ 0xed ∷ []

abbrev pub exchanges : List Exchange
exchanges =
    -- the list of an empty table
    record {
      table = nothing_exported;
      before = [];
      last = 0x01 ∷ 0x11 ∷ 0x80 ∷ 0x05 ∷ 0 ∷ 0 ∷ 0 ∷ 0 ∷ [];
      seen =
          record {
            event = done list;
            bytes = reply (0x01 ∷ 0x11 ∷ 0x00 ∷ 0x05 ∷ 0 ∷ 0 ∷ 0 ∷ 0 ∷ 0 ∷ 0 ∷ 0 ∷ 0 ∷ []);
            closed = true;
            numbers = counts 0 0 0 0 0;
          };
    }
    -- an unknown busid
    ∷ record {
      table = tape_table;
      before = [];
      last = import_of (0x31 ∷ 0x2d ∷ 0x32 ∷ []);
      seen = record { event = done (import 1); bytes = reply (0x01 ∷ 0x11 ∷ 0x00 ∷ 0x03 ∷ 0 ∷ 0 ∷ 0 ∷ 1 ∷ []); closed = true; numbers = counts 0 0 0 0 0 };
    }
    -- CmdIntrIN for the attached device, and for another
    ∷ record {
      table = tape_table;
      before = attached ∷ [];
      last = intr_in 0xd05 0x0001000f 1 64;
      seen = record { event = done (submit (intr_urb 1 0xd05 1 64)); bytes = reply []; closed = false; numbers = counts 1 1 0 0 0 };
    }
    ∷ record {
      table = tape_table;
      before = attached ∷ [];
      last = intr_in 0xd05 0x0001000e 1 64;
      seen =
          record {
            event = done (answer 0xd05 0xffffffed);
            bytes = reply (0 ∷ 0 ∷ 0 ∷ 3 ∷ 0 ∷ 0 ∷ 0x0d ∷ 0x05 ∷ zero_bytes 12 ++ minus_19 ++ zero_bytes 4 ++ (0xff ∷ 0xff ∷ 0xff ∷ 0xff ∷ zero_bytes 16));
            closed = false;
            numbers = counts 0 0 0 0 0;
          };
    }
    -- an unlink of a pending seqnum, and the same again
    ∷ record {
      table = tape_table;
      before = attached ∷ fed (intr_in 0xd05 0x0001000f 1 64) ∷ [];
      last = unlink_of 0xd07 0xd05;
      seen =
          record {
            event = done (unlink 0xd07 0xffffff98 (some 1));
            bytes = reply (0 ∷ 0 ∷ 0 ∷ 4 ∷ 0 ∷ 0 ∷ 0x0d ∷ 0x07 ∷ zero_bytes 12 ++ (0xff ∷ 0xff ∷ 0xff ∷ 0x98 ∷ zero_bytes 24));
            closed = false;
            numbers = counts 1 0 0 1 0;
          };
    }
    ∷ record {
      table = tape_table;
      before = attached ∷ fed (intr_in 0xd05 0x0001000f 1 64) ∷ fed (unlink_of 0xd07 0xd05) ∷ [];
      last = unlink_of 0xd07 0xd05;
      seen =
          record {
            event = done (unlink 0xd07 0 none);
            bytes = reply (0 ∷ 0 ∷ 0 ∷ 4 ∷ 0 ∷ 0 ∷ 0x0d ∷ 0x07 ∷ zero_bytes 40);
            closed = false;
            numbers = counts 1 0 0 1 0;
          };
    }
    -- the greatest transfer length, and one more
    ∷ record {
      table = tape_table;
      before = attached ∷ [];
      last = intr_in 0xd05 0x0001000f 1 16384;
      seen = record { event = done (submit (intr_urb 1 0xd05 1 16384)); bytes = reply []; closed = false; numbers = counts 1 1 0 0 0 };
    }
    ∷ record {
      table = tape_table;
      before = attached ∷ fed (intr_in 0xd05 0x0001000f 1 64) ∷ [];
      last = intr_in 0xd06 0x0001000f 1 16385;
      seen = record { event = done (break (fault 14 24) (1 ∷ [])); bytes = reply []; closed = true; numbers = counts 1 0 0 0 1 };
    }
    -- the highest endpoint, and one more
    ∷ record {
      table = tape_table;
      before = attached ∷ [];
      last = intr_in 0xd05 0x0001000f 15 64;
      seen = record { event = done (submit (intr_urb 1 0xd05 15 64)); bytes = reply []; closed = false; numbers = counts 1 1 0 0 0 };
    }
    ∷ record {
      table = tape_table;
      before = attached ∷ [];
      last = intr_in 0xd05 0x0001000f 16 64;
      seen =
          record {
            event = done (answer 0xd05 0xffffffea);
            bytes =
                reply
                (0 ∷ 0 ∷ 0 ∷ 3 ∷ 0 ∷ 0 ∷ 0x0d ∷ 0x05 ∷ zero_bytes 12 ++ (0xff ∷ 0xff ∷ 0xff ∷ 0xea ∷ zero_bytes 4) ++ (0xff ∷ 0xff ∷ 0xff ∷ 0xff ∷ zero_bytes 16));
            closed = false;
            numbers = counts 0 0 0 0 0;
          };
    }
    -- the 32nd pending, the 33rd, and after one return again
    ∷ record {
      table = tape_table;
      before = attached ∷ submits 31 1;
      last = intr_in 32 0x0001000f 1 64;
      seen = record { event = done (submit (intr_urb 32 32 1 64)); bytes = reply []; closed = false; numbers = counts 32 32 0 0 0 };
    }
    ∷ record {
      table = tape_table;
      before = attached ∷ submits 32 1;
      last = intr_in 33 0x0001000f 1 64;
      seen =
          record {
            event = done (answer 33 0xfffffff4);
            bytes =
                reply
                (0 ∷ 0 ∷ 0 ∷ 3 ∷ 0 ∷ 0 ∷ 0 ∷ 33 ∷ zero_bytes 12 ++ (0xff ∷ 0xff ∷ 0xff ∷ 0xf4 ∷ zero_bytes 4) ++ (0xff ∷ 0xff ∷ 0xff ∷ 0xff ∷ zero_bytes 16));
            closed = false;
            numbers = counts 32 32 0 0 0;
          };
    }
    ∷ record {
      table = tape_table;
      before = attached ∷ submits 32 1 ++ (returns 7 ∷ []);
      last = intr_in 33 0x0001000f 1 64;
      seen = record { event = done (submit (intr_urb 33 33 1 64)); bytes = reply []; closed = false; numbers = counts 33 32 1 0 0 };
    }
    ∷ []

-- How many places a case's table has.
abbrev pub places : Exchange → ℕ
places x = length x.table.devices

-- Each exchange is seen as the rules say, over a table that the code can have.
abbrev pub Known : Type 0
Known = (map seen_of exchanges ≡ map said exchanges) × (map places exchanges ≡ replicate (length exchanges) Limits.MAX-DEVICES)
