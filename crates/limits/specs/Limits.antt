-- Every limit, phase and number of the rules (PROTOCOL.md, 3.6 and 5), each named once. The constants of src/lib.rt have the same names, with `_` for `-`.
use Rattle.std.specs.Prelude.{ℕ, ◌-◌, ◌^◌}

-- ## The export table ("Open")

-- The most devices of a table, and interfaces of a device.
abbrev pub MAX-DEVICES : ℕ
MAX-DEVICES = 16

abbrev pub MAX-INTERFACES : ℕ
MAX-INTERFACES = 16

-- The bytes of a device's path on the box.
abbrev pub PATH-LEN : ℕ
PATH-LEN = 256

-- The highest bus and device numbers; the lowest are 1.
abbrev pub MAX-BUSNUM : ℕ
MAX-BUSNUM = 65535

abbrev pub MAX-DEVNUM : ℕ
MAX-DEVNUM = 127

-- ## URBs

-- The most that are pending at once, and the last ticket.
abbrev pub MAX-PENDING : ℕ
MAX-PENDING = 32

abbrev pub LAST-TICKET : ℕ
LAST-TICKET = 2 ^ 64 - 1

-- The highest endpoint number.
abbrev pub MAX-EP : ℕ
MAX-EP = 15

-- The greatest transfer_buffer_length.
abbrev pub MAX-TRANSFER : ℕ
MAX-TRANSFER = 16384

-- number_of_packets of a transfer that isn't isochronous, besides 0.
abbrev pub NO-PACKETS : ℕ
NO-PACKETS = 0xffffffff

-- The most packets of an isochronous transfer, and the bytes of their descriptors.
abbrev pub MAX-PACKETS : ℕ
MAX-PACKETS = 32

abbrev pub DESCRIPTORS-LEN : ℕ
DESCRIPTORS-LEN = 512

-- ## Lent buffers: the least sizes of a work buffer, of a reply buffer and of a completion's header buffer

abbrev pub WORK-LEN : ℕ
WORK-LEN = 16896

abbrev pub REPLY-LEN : ℕ
REPLY-LEN = 8192

abbrev pub HEADER-ROOM : ℕ
HEADER-ROOM = 560

-- ## Phases of a session

abbrev pub WAITING : ℕ
WAITING = 0

abbrev pub ATTACHED : ℕ
ATTACHED = 1

abbrev pub CLOSED : ℕ
CLOSED = 2

-- ## Refusals, by number

abbrev pub SHORT-BUFFER : ℕ
SHORT-BUFFER = 1

abbrev pub BAD-TABLE : ℕ
BAD-TABLE = 2

abbrev pub SESSION-CLOSED : ℕ
SESSION-CLOSED = 3

abbrev pub NOT-PENDING : ℕ
NOT-PENDING = 4

abbrev pub STATUS-ABOVE-0 : ℕ
STATUS-ABOVE-0 = 5

abbrev pub MISFIT : ℕ
MISFIT = 6

abbrev pub SHORT-DATA : ℕ
SHORT-DATA = 7

-- ## Faults of the stream, by number

abbrev pub BAD-VERSION : ℕ
BAD-VERSION = 10

abbrev pub BAD-CODE : ℕ
BAD-CODE = 11

abbrev pub BAD-COMMAND : ℕ
BAD-COMMAND = 12

abbrev pub BAD-DIRECTION : ℕ
BAD-DIRECTION = 13

abbrev pub BAD-LENGTH : ℕ
BAD-LENGTH = 14

abbrev pub BAD-PACKETS : ℕ
BAD-PACKETS = 15

abbrev pub SEQNUM-PENDING : ℕ
SEQNUM-PENDING = 16

abbrev pub DIRTY-PADDING : ℕ
DIRTY-PADDING = 17

abbrev pub BAD-DEVID : ℕ
BAD-DEVID = 18
