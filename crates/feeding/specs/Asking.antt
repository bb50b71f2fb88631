-- What a piece brings of a header, and what must be looked up for it.
use Rattle.std.specs.Prelude.{ℕ, ◌+◌, ◌-◌, true, false, cond, Option, Some, None, List, ◌++◌, eqb, leb, ltb, length, take, drop}
use Rattle.wire.specs.Codes
use Rattle.messages.specs.Messages.{header_of, unlink_seqnum}
use Rattle.messages.specs.declared.message.Header.{Header}
-- What is asked for, if anything, is looked up among the pending URBs.
pub use Rattle.pending.specs.Looks.{look_asked}
use Rattle.pending.specs.declared.look.Key.{Key}
use Rattle.pending.specs.declared.look.Key.TheVariants.{Seqnum}
use Rattle.links.specs.Links.{no_descriptors, bodied}
use Rattle.links.specs.declared.link.Link.{Link}
use Rattle.links.specs.declared.link.Progress.{Progress}
use Rattle.feeding.specs.declared.ask.Asked.{Asked}

-- Bytes come behind those of the header that are filled.
abbrev pub grown : Progress → List ℕ → Progress
grown p xs =
    record {
      head = take p.filled p.head ++ (xs ++ drop (p.filled + length xs) p.head);
      filled = p.filled + length xs;
      header = p.header;
      body = p.body;
      descriptors = p.descriptors;
    }

-- The header is whole, and read.
abbrev pub read_from : Progress → Progress
read_from p = bodied (header_of p.head) 0 no_descriptors

-- A submit asks whether its own seqnum is pending, an unlink for the one that it names.
abbrev pub key_for : Header → Option Key
key_for h =
    cond (eqb h.command Codes.CMD-SUBMIT) (Some (Seqnum h.transfer.seqnum))
    (cond (eqb h.command Codes.CMD-UNLINK) (Some (Seqnum (unlink_seqnum h))) None)

-- A header that is read already asks nothing, and one that isn't whole yet, neither.
unfoldable pub ask_of : Link → List ℕ → Asked
ask_of k piece =
    let p = k.progress in
    let need = Codes.HEADER-LEN - p.filled in
    let q = read_from (grown p (take need piece)) in
    cond (leb Codes.HEADER-LEN p.filled) (record { progress = p; consumed = 0; read = false; key = None })
    (cond (ltb (length piece) need) (record { progress = grown p piece; consumed = length piece; read = false; key = None })
    (record { progress = q; consumed = need; read = true; key = key_for q.header }))
