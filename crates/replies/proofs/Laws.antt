-- How long a reply is, and what it begins with.
use Prim.Native.Nat.{◌+◌, ◌*◌}
use mathlib.Core.Path.{◌≡◌, ◌∙◌}
use mathlib.Core.List.{List, [], ◌∷◌}
use lib.ListN.{length, take, drop, length-append}
use lib.Seq.{take_at, drop_at}
use Rattle.wire.specs.Codes.{HEADER-LEN, DESCRIPTOR-LEN, RET-SUBMIT}
use Rattle.wire.specs.Fields.{u32}
use Rattle.wire.proofs.Heads.{pack-length}
use Rattle.messages.specs.Messages.{ret_submit}
use Rattle.messages.specs.declared.reply.RetSubmit.{RetSubmit}
use Rattle.packets.specs.declared.packet.Packet.{Packet}
use Rattle.results.specs.declared.PacketResult.{PacketResult}
use Rattle.descriptors.specs.Descriptors.{descriptors_of}
use Rattle.descriptors.proofs.Laws.{descriptors_length}
use Rattle.replies.specs.Replies.{submit_reply}

pub header-length : (r : RetSubmit) → length (ret_submit r) ≡ HEADER-LEN
header-length r =
    pack-length
    (u32 RET-SUBMIT ∷ u32 r.seqnum ∷ u32 0 ∷ u32 0 ∷ u32 0 ∷
    u32 r.status ∷ u32 r.actual ∷ u32 r.start ∷ u32 r.packets ∷ u32 r.errors ∷ u32 0 ∷ u32 0 ∷ [])

pub reply-length : (r : RetSubmit) (ks : List Packet) (rs : List PacketResult)
    → length (submit_reply r ks rs) ≡ HEADER-LEN + length rs * DESCRIPTOR-LEN
unfolding submit_reply
reply-length r ks rs = length-append (ret_submit r) (descriptors_of ks rs) ∙ rw (header-length r, descriptors_length ks rs)

-- the header first
pub reply-header : (r : RetSubmit) (ks : List Packet) (rs : List PacketResult) → take HEADER-LEN (submit_reply r ks rs) ≡ ret_submit r
unfolding submit_reply
reply-header r ks rs = take_at (ret_submit r) (descriptors_of ks rs) HEADER-LEN (header-length r)

-- the descriptors behind it
pub reply_descriptors : (r : RetSubmit) (ks : List Packet) (rs : List PacketResult) → drop HEADER-LEN (submit_reply r ks rs) ≡ descriptors_of ks rs
unfolding submit_reply
reply_descriptors r ks rs = drop_at (ret_submit r) (descriptors_of ks rs) HEADER-LEN (header-length r)
