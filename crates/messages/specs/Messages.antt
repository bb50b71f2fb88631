-- What each message is made of (PROTOCOL.md, 4).
use Rattle.std.specs.Prelude.{ℕ, zero, suc, ◌+◌, ◌-◌, ◌*◌, ◌≤◌, ◌<◌, ◌≡◌, cond, List, [], ◌∷◌, ◌⊎◌, eqb, ltb, take, drop, get_or, replicate}
use Rattle.wire.specs.Codes
use Rattle.limits.specs.Limits.{MAX-PACKETS}
use Rattle.wire.specs.Fields.{u16, u32, pack, field}
use Rattle.messages.specs.declared.request.Request.{Request}
use Rattle.messages.specs.declared.message.Header.{Header}
use Rattle.messages.specs.declared.message.Transfer.{Transfer}
use Rattle.messages.specs.declared.reply.RetSubmit.{RetSubmit}
use Rattle.messages.specs.declared.reply.RetUnlink.{RetUnlink}

-- ## Read: requests

abbrev pub request_of : List ℕ → Request
request_of m = record { version = field 2 Codes.VERSION-AT m; code = field 2 Codes.CODE-AT m; status = field 4 Codes.OP-STATUS-AT m }

-- The busid of an import request, all its bytes.
abbrev pub busid_of : List ℕ → List ℕ
busid_of m = take Codes.BUSID-LEN (drop Codes.OP-LEN m)

-- ## Read: the messages of an attached session

abbrev pub setup_of : List ℕ → List ℕ
setup_of m = take Codes.SETUP-LEN (drop Codes.SETUP-AT m)

abbrev pub transfer_of : List ℕ → Transfer
transfer_of m =
    record {
      seqnum = field 4 Codes.SEQNUM-AT m;
      direction = field 4 Codes.DIRECTION-AT m;
      ep = field 4 Codes.EP-AT m;
      flags = field 4 Codes.FLAGS-AT m;
      length = field 4 Codes.LENGTH-AT m;
      start = field 4 Codes.START-AT m;
      packets = field 4 Codes.PACKETS-AT m;
      interval = field 4 Codes.INTERVAL-AT m;
    }

-- The first of n places from i on where the byte isn't 0; the place behind them where it is 0 at each.
abbrev pub first_set : (n i : ℕ) → List ℕ → ℕ
first_set zero i m = i
first_set (suc n) i m = cond (eqb (get_or m i 0) 0) (first_set n (suc i) m) i

-- An unlink's padding is its direction and ep, and all that stands behind unlink_seqnum. Where the first byte of it stands that isn't 0;
-- behind the header where each is.
abbrev pub dirty_of : List ℕ → ℕ
dirty_of m =
    let a = first_set (Codes.UNLINK-SEQNUM-AT - Codes.DIRECTION-AT) Codes.DIRECTION-AT m in
    cond (ltb a Codes.UNLINK-SEQNUM-AT) a (first_set (Codes.HEADER-LEN - Codes.LENGTH-AT) Codes.LENGTH-AT m)

abbrev pub header_of : List ℕ → Header
header_of m =
    record { command = field 4 Codes.COMMAND-AT m; devid = field 4 Codes.DEVID-AT m; transfer = transfer_of m; setup = setup_of m; dirty = dirty_of m }

-- The same padding, byte by byte: some byte of it isn't 0.
abbrev pub Padding : ℕ → Type 0
Padding i = ((Codes.DIRECTION-AT ≤ i) × (i < Codes.UNLINK-SEQNUM-AT)) ⊎ ((Codes.LENGTH-AT ≤ i) × (i < Codes.HEADER-LEN))

abbrev pub Dirty : List ℕ → Type 0
Dirty m = (i : ℕ) × Padding i × (get_or m i 0 ≡ 0 → ⊥)

-- The first such byte: each byte of the padding before it is 0.
abbrev pub FirstDirty : List ℕ → ℕ → Type 0
FirstDirty m at = Padding at × (get_or m at 0 ≡ 0 → ⊥) × ((j : ℕ) → Padding j → j < at → get_or m j 0 ≡ 0)

-- What stands in the place of a header while none is read: zeros.
abbrev pub blank_header : Header
blank_header =
    record {
      command = 0;
      devid = 0;
      transfer = record { seqnum = 0; direction = 0; ep = 0; flags = 0; length = 0; start = 0; packets = 0; interval = 0 };
      setup = replicate Codes.SETUP-LEN 0;
      dirty = 0;
    }

-- How many descriptors number_of_packets stands for: itself, 1 to 32, of an isochronous transfer; none of any other.
abbrev pub iso_count : ℕ → ℕ
iso_count number = cond (ltb MAX-PACKETS number) 0 number

-- How many bytes of data follow the 48 of a submit: those of an OUT.
abbrev pub data_len : Header → ℕ
data_len h = cond (eqb h.transfer.direction Codes.DIR-OUT) h.transfer.length 0

-- How many bytes follow the 48 of a submit: its data, then a descriptor for each packet.
abbrev pub body_len : Header → ℕ
body_len h = data_len h + iso_count h.transfer.packets * Codes.DESCRIPTOR-LEN

-- The seqnum of the submit that an unlink names stands where a submit has its flags.
abbrev pub unlink_seqnum : Header → ℕ
unlink_seqnum h = h.transfer.flags

-- The same by the message's bytes alone.
abbrev pub unlink_seqnum_of : List ℕ → ℕ
unlink_seqnum_of m = field 4 Codes.UNLINK-SEQNUM-AT m

-- ## Written: replies to requests

-- The head of a reply: the version, the reply's code, its status.
abbrev pub reply_head : ℕ → ℕ → List ℕ
reply_head code status = pack (u16 Codes.VERSION ∷ u16 code ∷ u32 status ∷ [])

-- ## Written: replies to messages

-- USBIP_RET_SUBMIT: devid, direction and ep are 0, and 8 zeros end it.
abbrev pub ret_submit : RetSubmit → List ℕ
ret_submit r =
    pack
    (u32 Codes.RET-SUBMIT ∷ u32 r.seqnum ∷ u32 0 ∷ u32 0 ∷ u32 0 ∷
    u32 r.status ∷ u32 r.actual ∷ u32 r.start ∷ u32 r.packets ∷ u32 r.errors ∷ u32 0 ∷ u32 0 ∷ [])

-- USBIP_RET_UNLINK: the unlink's own seqnum, three zeros, the status, 24 zeros.
abbrev pub ret_unlink : RetUnlink → List ℕ
ret_unlink r =
    pack
    (u32 Codes.RET-UNLINK ∷ u32 r.seqnum ∷ u32 0 ∷ u32 0 ∷ u32 0 ∷
    u32 r.status ∷ u32 0 ∷ u32 0 ∷ u32 0 ∷ u32 0 ∷ u32 0 ∷ u32 0 ∷ [])
