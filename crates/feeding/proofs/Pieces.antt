-- The plan for the bytes of a piece from a place on, carried out, is their feed.
use Prim.Native.Nat.{ℕ, ◌+◌, ◌-◌, ◌≤◌}
use native.Mathlib.Omega.{arith}
use mathlib.Core.Path.{◌≡◌, sym, ◌∙◌}
use mathlib.Core.List.{List}
use lib.ListN.{length, take, drop}
use lib.Seq.{sets}
use Rattle.exports.specs.declared.device.Table.{Table}
use Rattle.pending.specs.declared.list.Pending.{Pending}
use Rattle.limits.specs.Limits
use Rattle.model.specs.State.{Message, Sess}
use Rattle.model.specs.Answers.{Event}
use Rattle.model.specs.Acts.{Buffers}
use Rattle.model.specs.Cut.{lent}
use Rattle.links.specs.Links.{whole, message_of, during, Clean, Padded, TidyParts}
use Rattle.links.specs.declared.link.Link.{Link}
use Rattle.links.specs.declared.link.Progress.{Progress}
use Rattle.events.specs.Plans.{with_body, parts_after, data_of, carried_with}
use Rattle.events.specs.declared.plan.Plan.{Plan}
use Rattle.events.proofs.Saying.{result_at, Says}
use Rattle.feeding.proofs.Stages.{fed_from, placed_at}

-- what a plan with this reply makes of the bytes of a piece from a place on, with this message in progress
pub record Feeds (bytes : List ℕ) (r : Plan) (t : Table) (k : Link) (l : Pending) (at : ℕ) (p : Progress) (piece : List ℕ) (time : ℕ)
    : Type 0 where
  pub inside : r.to ≤ length piece
  pub room : r.body + (r.to - r.from) ≤ Limits.WORK-LEN
  pub fed : (b : Buffers) → carried_with bytes t l r piece b ≡ fed_from time at (during (whole t k l) (message_of p)) b (drop at piece)
  pub tidy : Clean l → Padded p → TidyParts (parts_after t l r)

module _ (t : Table) (k : Link) (l : Pending) (at : ℕ) (p : Progress) (piece : List ℕ) (time : ℕ) where
  abbrev pub start : Sess
  start = during (whole t k l) (message_of p)

  module _ {bytes : List ℕ} {r : Plan} where
    module _ {m : Message} {consumed : ℕ} {e : Event} (y : Says bytes r t k l m consumed e) (z : Padded p → Padded r.link.progress) where
      -- a plan that copies nothing
      pub feeds : ((b : Buffers) → fed_from time at start b (drop at piece) ≡ result_at (during (whole t k l) m) b consumed e)
          → Feeds bytes r t k l at p piece time
      feeds h =
          record {
            inside = omega (arith, y.copies.2);
            room = omega (arith, y.copies.0, y.copies.1, y.copies.2);
            fed = λ b. y.said piece b ∙ sym (h b);
            tidy = λ c g. y.tidy c (z g);
          }

      -- the same plan with bytes of a body
      pub feeds_body : (body to : ℕ) → to ≤ length piece → body + (to - at) ≤ Limits.WORK-LEN
          → ((b : Buffers) → fed_from time at start b (drop at piece)
          ≡ result_at (during (whole t k l) m) (placed_at body (take (to - at) (drop at piece)) b) consumed e)
          → Feeds bytes (with_body body at to r) t k l at p piece time
      feeds_body body to i n h =
          record {
            inside = i;
            room = n;
            fed =
                λ b.
                let w = sets b.work body (take (to - at) (drop at piece)) in
                let v : w ≡ sets w r.body (data_of r piece) = rw (y.copies.0, y.copies.1, y.copies.2) in
                let x = carried_with bytes t l r piece (lent w b.reply) in
                (λ i.
                record {
                  event = x.event;
                  setup = x.setup;
                  iso = x.iso;
                  dropped = x.dropped;
                  consumed = x.consumed;
                  length = x.length;
                  buffers = lent (v i) x.buffers.reply;
                  next = x.next;
                })
                ∙ y.said piece (lent w b.reply) ∙ sym (h b);
            tidy = λ c g. y.tidy c (z g);
          }

    -- a plan for the rest is a plan for all
    pub feeds_on : (end : ℕ) (q : Progress) → Feeds bytes r t k l end q piece time → (Padded p → Padded q)
        → ((b : Buffers) → fed_from time at start b (drop at piece) ≡ fed_from time end (during (whole t k l) (message_of q)) b (drop end piece))
        → Feeds bytes r t k l at p piece time
    feeds_on end q f z h =
        record { inside = f.inside; room = f.room; fed = λ b. f.fed b ∙ sym (h b); tidy = λ c g. f.tidy c (z g) }
