-- What is written to the lent buffers.
use Prim.Native.Nat.{ℕ, ◌+◌, ◌-◌, ◌≤◌}
use native.Mathlib.Omega.{arith}
use mathlib.Core.Path.{◌≡◌, refl, sym, subst, ◌∙◌}
use mathlib.Core.List.{List, ◌++◌}
use lib.ListN.{length, take, drop, length-append, length-take, length-replicate}
use lib.Seq.{sets, sets-eq, length-take-le}
use Rattle.wire.specs.Codes
use Rattle.ground.specs.Writing.{Wrote}
use Rattle.ground.proofs.Parts.{written_next, over_front}
use Rattle.messages.specs.Messages.{iso_count, ret_unlink}
use Rattle.messages.specs.declared.reply.RetSubmit.{RetSubmit}
use Rattle.messages.specs.declared.reply.RetUnlink.{RetUnlink}
use Rattle.importing.specs.Imports.{import_refusal}
use Rattle.packets.specs.declared.packet.Packet.{Packet}
use Rattle.results.specs.Results.{packet_result}
use Rattle.results.specs.declared.PacketResult.{PacketResult}
use Rattle.descriptors.specs.Descriptors.{refused_results}
use Rattle.replies.specs.Replies.{submit_reply}
use Rattle.replies.proofs.Laws.{reply-length}
use Rattle.model.proofs.Packets.{iso-most}
use Rattle.events.specs.Plans.{refusal_bytes}
use Rattle.limits.specs.Limits

-- bytes written at a place of the work buffer
pub written_sets : (work xs ys : List ℕ) (at n count : ℕ) → length work ≡ n → at + length xs ≤ n → Wrote xs (take (n - at) (drop at work)) ys count
    → take at work ++ (ys ++ drop (n - at) (drop at work)) ≡ sets work at xs
written_sets work xs ys at n count l h w =
    let k : length (take at work) ≡ at = length-take-le at work (omega arith) in
    written_next work work (take at work) xs ys at n count l k (sym (over_front at work (omega arith))) h w
    ∙ rw (length-append (take at work) xs, k) (sym (sets-eq xs work at (omega arith)))

-- a reply, once its case is known
pub reply_as : {R : Type 0} (bytes : R → List ℕ) (y z : R) (d x : List ℕ) (n : ℕ) → y ≡ z → Wrote (bytes z) d x n → length (bytes z) ≤ Limits.REPLY-LEN
    → Wrote (bytes y) d x n × (length (bytes y) ≤ Limits.REPLY-LEN)
reply_as {R = R} bytes y z d x n e w l = subst (λ (k : R). Wrote (bytes k) d x n × (length (bytes k) ≤ Limits.REPLY-LEN)) (sym e) (w, l)

-- the replies that are shorter than the least buffer
pub refused-length : length import_refusal ≡ Codes.OP-LEN
unfolding import_refusal
refused-length = refl

pub refusal_length : (ks : List Packet) (r : RetSubmit) → length (refusal_bytes ks r) ≤ Limits.REPLY-LEN
refusal_length ks r =
    let n = iso_count r.packets in
    omega (
      arith,
      reply-length r ks (refused_results n r.status),
      length-replicate n (packet_result 0 r.status),
      iso-most r.packets,
    )

-- and a completion's has room in the least header buffer
pub completed-length : (ks : List Packet) (rs : List PacketResult) (r : RetSubmit)
    → length (submit_reply r ks (take (iso_count r.packets) rs)) ≤ Limits.HEADER-ROOM
completed-length ks rs r =
    let n = iso_count r.packets in
    omega (arith, reply-length r ks (take n rs), length-take n rs, iso-most r.packets)

pub ret_unlink-length : (r : RetUnlink) → length (ret_unlink r) ≡ Codes.HEADER-LEN
ret_unlink-length r = refl
