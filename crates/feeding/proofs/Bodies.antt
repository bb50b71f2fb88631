-- A body that goes on, as the code keeps it: of its bytes those past the data are the descriptors'.
use Prim.Native.Nat.{ℕ, ◌+◌, ◌-◌, ◌*◌, ◌≤◌}
use native.Mathlib.Omega.{arith}
use mathlib.Core.Path.{◌≡◌, sym, ap, ◌∙◌}
use mathlib.Core.List.{List, [], ◌++◌}
use lib.ListN.{length, take, drop, length-drop, length-replicate}
use Rattle.wire.specs.Codes
use Rattle.messages.specs.Messages.{iso_count, data_len, body_len}
use Rattle.messages.specs.declared.message.Header.{Header}
use Rattle.packets.proofs.Reading.{packets_front}
use Rattle.limits.specs.Limits
use Rattle.model.specs.State.{headed, submit_packets}
use Rattle.model.proofs.Packets.{iso-most}
use Rattle.links.specs.Links.{Parts, descriptors_in, message_of, no_descriptors, bodied, Padded}
use Rattle.links.specs.declared.link.Progress.{Progress}
use Rattle.links.proofs.Tidy.{read-padded}
use Rattle.links.proofs.Views.{message-headed}
use Rattle.feeding.specs.Planning.{further_on}
use Rattle.feeding.proofs.Behind.{filled_front, filled_length, filled_rest}
use Rattle.feeding.proofs.Stages.{Makes, placed_at, makes_body}

pub none-size : length no_descriptors ≡ Limits.DESCRIPTORS-LEN
none-size = length-replicate {A = ℕ} Limits.DESCRIPTORS-LEN 0

-- ## None of it is in

-- the header was just read
module _ (h : Header) where
  none : 0 - data_len h ≡ 0
  none = omega arith

  pub message_begun : message_of (bodied h 0 no_descriptors) ≡ headed h 0 []
  message_begun = ap (λ (n : ℕ). headed h 0 (take n no_descriptors)) none

  pub begun_padded : Padded (bodied h 0 no_descriptors)
  begun_padded = read-padded h 0 no_descriptors none-size (rw none)

  -- a submit that ends there has no packets, whatever the array holds
  pub no_packets : body_len h ≡ 0 → (ds es : List ℕ) → submit_packets h ds ≡ submit_packets h es
  no_packets e ds es = let z : iso_count h.transfer.packets ≡ 0 = omega arith in rw z

-- ## More bytes of it come

module _ (p : Progress) (f : p.filled ≡ Codes.HEADER-LEN) (size : length p.descriptors ≡ Limits.DESCRIPTORS-LEN) (xs : List ℕ)
    (left : p.body + length xs ≤ body_len p.header) where
  abbrev at : ℕ
  at = p.body - data_len p.header

  abbrev more : List ℕ
  more = drop (data_len p.header - p.body) xs

  abbrev further : Progress
  further = further_on p xs

  -- so many bytes of descriptors are in then
  count : further.body - data_len p.header ≡ at + length more
  count = rw (length-drop (data_len p.header - p.body) xs) (omega arith)

  room : at + length more ≤ length p.descriptors
  room = omega (arith, size, iso-most p.header.transfer.packets, sym count)

  pub further_size : length further.descriptors ≡ Limits.DESCRIPTORS-LEN
  further_size = filled_length at p.descriptors more room ∙ size

  further_in : descriptors_in further ≡ descriptors_in p ++ more
  further_in = ap (λ (n : ℕ). take n further.descriptors) count ∙ filled_front at p.descriptors more room

  pub further_padded : Padded p → Padded further
  further_padded z =
      record {
        size = z.size;
        fits = z.fits;
        grows = λ q. absurd (omega arith);
        read = z.read;
        places = further_size;
        behind = rw count (filled_rest at p.descriptors more room Limits.DESCRIPTORS-LEN z.behind);
      }

  -- ## What the bytes make of the message

  pub message_further : message_of further ≡ headed p.header (p.body + length xs) (descriptors_in p ++ more)
  message_further = message-headed further (omega arith) ∙ ap (headed p.header (p.body + length xs)) further_in

  pub further_makes : (s : Parts) → Makes s (message_of p) xs (message_of further) (placed_at p.body xs)
  further_makes s = rw (message-headed p (omega arith), message_further) (makes_body s p.header p.body (descriptors_in p) xs)

  -- the packets in the array are those of the bytes that came, where all came
  pub further_packets : further.body ≡ body_len p.header
      → submit_packets p.header further.descriptors ≡ submit_packets p.header (descriptors_in p ++ more)
  further_packets e =
      let n = iso_count p.header.transfer.packets in
      let all : further.body - data_len p.header ≡ n * Codes.DESCRIPTOR-LEN = omega arith in
      sym (packets_front n further.descriptors)
      ∙ ap (λ (m : ℕ). submit_packets p.header (take m further.descriptors)) (sym all)
      ∙ ap (submit_packets p.header) further_in
