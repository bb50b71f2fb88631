-- What an act prints: the lines of `replay`, and behind them those that `trace` adds, which show every byte.
use Rattle.std.specs.Prelude.{ℕ, ◌≤◌, ◌≡◌, Bool, cond, List, [], ◌++◌, eqb, length, take}
use Rattle.wire.specs.Codes
use Rattle.ground.specs.Writing.{over}
use Rattle.pending.specs.declared.urb.Urb.{Urb}
use Rattle.model.specs.Answers.{Outcome, refused, done, Returned, Event, hungry, list, import, submit, answer, unlink, break}
use Rattle.lines.specs.Lines.{feed_lines, completion_lines}
use Rattle.traces.specs.Traces.{feed_trace, record_trace, data_trace, packets_trace, removed_trace, header_trace}

-- Lines are put at the front of a buffer: as many bytes as are said, which the buffer has; and where it has room for all the
-- lines, they stand there whole, and the rest is unchanged.
pub record Puts (lines entry exit : List ℕ) (count : ℕ) : Type 0 where
  pub within : count ≤ length exit
  pub put : length lines ≤ length entry → (count ≡ length lines) × (exit ≡ over lines entry)

-- The lines of an act, with those that only a trace adds.
abbrev pub with_traces : (traced : Bool) → (lines traces : List ℕ) → List ℕ
with_traces traced lines traces = lines ++ cond traced traces []

-- ## A feed

-- The data that came with a submit: direction OUT has as many bytes as its length says.
abbrev pub data_length : (direction length : ℕ) → ℕ
data_length direction length = cond (eqb direction Codes.DIR-OUT) length 0

-- What a trace adds for an accepted submit: its record, its data in the work buffer, and its packets.
abbrev pub data_traces : Urb → (work : List ℕ) → List ℕ
data_traces u work = record_trace u ++ data_trace (take (data_length u.transfer.direction u.transfer.length) work)

abbrev pub submit_traces : Urb → (work : List ℕ) → List ℕ
submit_traces u work = data_traces u work ++ packets_trace u.transfer.packets u.iso

-- What it adds for an event: besides, the ticket that an unlink removed.
abbrev pub event_traces : Outcome Event → (work : List ℕ) → List ℕ
event_traces (done (submit u)) work = submit_traces u work
event_traces (done (unlink q st removed)) work = removed_trace removed
event_traces (done hungry) work = []
event_traces (done list) work = []
event_traces (done (import st)) work = []
event_traces (done (answer q st)) work = []
event_traces (done (break f ts)) work = []
event_traces (refused n) work = []

-- What it adds for a feed: the bytes consumed and the reply, and what goes with its event.
abbrev pub feed_traces : Outcome Event → (consumed length : ℕ) → (work reply : List ℕ) → List ℕ
feed_traces o consumed length work reply = feed_trace consumed length (take length reply) ++ event_traces o work

abbrev pub feed_text : Bool → Outcome Event → (consumed length : ℕ) → (work reply : List ℕ) → List ℕ
feed_text traced o consumed length work reply = with_traces traced (feed_lines o) (feed_traces o consumed length work reply)

-- ## A completion of so many packets, with the header that it left

abbrev pub completion_text : Bool → (packets ticket actual : ℕ) → Outcome Returned → (header : List ℕ) → List ℕ
completion_text traced packets ticket actual o header = with_traces traced (completion_lines ticket actual o) (header_trace packets o header)
