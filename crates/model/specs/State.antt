-- The state of a session, nested as the code has it: the export table, the link to the client, the pending URBs (PROTOCOL.md, 2 and 3).
use Rattle.std.specs.Prelude.{ℕ, suc, ◌+◌, ◌-◌, Bool, cond, List, [], eqb, length}
use Rattle.wire.specs.Codes
use Rattle.messages.specs.Messages.{blank_header, iso_count}
use Rattle.messages.specs.declared.message.Header.{Header}
use Rattle.packets.specs.Packets.{packets_of}
use Rattle.packets.specs.declared.packet.Packet.{Packet}
use Rattle.exports.specs.declared.device.Table.{Table}
use Rattle.pending.specs.declared.urb.Urb.{Urb}
use Rattle.pending.specs.declared.counts.Counts.{Counts}
use Rattle.pending.specs.declared.counts.Numbers.{Numbers}
use Rattle.limits.specs.Limits

-- The message in progress: the bytes that came, as long as its header isn't whole (a request never gets further); then the header, read,
-- how many bytes of the body came, and those of them that are descriptors', which stand behind the data.
pub data Message : Type 0 where
  partly : (bytes : List ℕ) → Message
  headed : Header → (body : ℕ) → (descriptors : List ℕ) → Message

-- The link to the client: WAITING, ATTACHED or CLOSED; the devid of the device that is attached; the message in progress; how many URBs
-- were ever accepted, and what became of those that are no longer pending.
pub record Link : Type 0 where
  pub phase : ℕ
  pub devid : ℕ
  pub message : Message
  pub counts : Counts

-- The pending URBs are in ticket order.
pub record Sess : Type 0 where
  pub table : Table
  pub link : Link
  pub pend : List Urb

abbrev pub closed : Sess → Bool
closed s = eqb s.link.phase Limits.CLOSED

-- "The session reports five numbers"
abbrev pub numbers_of : Sess → Numbers
numbers_of s =
    let c = s.link.counts in
    record { accepted = c.accepted; pending = length s.pend; returned = c.returned; unlinked = c.unlinked; dropped = c.dropped }

-- The device that is served, by its devid; 0 while none is attached.
abbrev pub served_devid : Sess → ℕ
served_devid s = cond (eqb s.link.phase Limits.ATTACHED) s.link.devid 0

-- ## The same state with a part replaced

abbrev pub with_link : Link → Sess → Sess
with_link k s = record { table = s.table; link = k; pend = s.pend }

abbrev pub with_pend : List Urb → Sess → Sess
with_pend us s = record { table = s.table; link = s.link; pend = us }

abbrev pub in_phase : ℕ → Link → Link
in_phase phase k = record { phase = phase; devid = k.devid; message = k.message; counts = k.counts }

abbrev pub with_message : Message → Link → Link
with_message m k = record { phase = k.phase; devid = k.devid; message = m; counts = k.counts }

abbrev pub with_counts : Counts → Link → Link
with_counts c k = record { phase = k.phase; devid = k.devid; message = k.message; counts = c }

-- Attached to the device with a devid.
abbrev pub attached_as : ℕ → Link → Link
attached_as devid k = record { phase = Limits.ATTACHED; devid = devid; message = k.message; counts = k.counts }

-- ## The message in progress

-- The packets of a submit, by the bytes of its descriptors.
abbrev pub submit_packets : Header → (descriptors : List ℕ) → List Packet
submit_packets h ds = packets_of (iso_count h.transfer.packets) ds

abbrev pub no_message : Message
no_message = partly []

-- What came of a request; a message's header, blank as long as it isn't whole.
abbrev pub bytes_in : Message → List ℕ
bytes_in (partly bytes) = bytes
bytes_in (headed h body ds) = []

abbrev pub header_in : Message → Header
header_in (partly bytes) = blank_header
header_in (headed h body ds) = h

-- The packets that its descriptors say, when they are all in.
abbrev pub packets_in : Message → List Packet
packets_in (partly bytes) = []
packets_in (headed h body ds) = submit_packets h ds

-- How many bytes the header still takes, the next one at least; where the next byte of the body goes.
abbrev pub room : Message → ℕ
room (partly bytes) = suc (Codes.HEADER-LEN - suc (length bytes))
room (headed h body ds) = 0

abbrev pub place : Message → ℕ
place (partly bytes) = 0
place (headed h body ds) = body

-- ## The counts

-- What becomes of a URB that is no longer pending.
pub data End : Type 0 where
  returned unlinked dropped : End

-- So many more have that end.
abbrev pub ended : End → ℕ → Counts → Counts
ended returned n c = record { accepted = c.accepted; returned = c.returned + n; unlinked = c.unlinked; dropped = c.dropped }
ended unlinked n c = record { accepted = c.accepted; returned = c.returned; unlinked = c.unlinked + n; dropped = c.dropped }
ended dropped n c = record { accepted = c.accepted; returned = c.returned; unlinked = c.unlinked; dropped = c.dropped + n }

abbrev pub one_accepted : Counts → Counts
one_accepted c = record { accepted = suc c.accepted; returned = c.returned; unlinked = c.unlinked; dropped = c.dropped }
