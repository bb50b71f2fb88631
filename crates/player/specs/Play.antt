-- What a record of a tape does and prints (PROTOCOL.md, 10); traced, with every byte visible.
use Rattle.std.specs.Prelude.{ℕ, zero, suc, Bool, true, false, cond, not, ◌||◌, List, [], ◌++◌, eqb, length, drop, replicate}
use Rattle.limits.specs.Limits
use Rattle.model.specs.State.{Sess}
use Rattle.model.specs.Answers.{Outcome, refused, done, Event, hungry, list, import, submit, answer, unlink, break}
use Rattle.model.specs.Acts.{Buffers, Kind, plain, isochronous, results_in, complete_of, close_of}
use Rattle.events.specs.Plans.{Result}
use Rattle.feeding.specs.Feeding.{fed_of}
use Rattle.session.specs.Views.{handed}
use Rattle.tape.specs.Tape.{stream_of, iso_results, iso_total}
use Rattle.tape.specs.Table.{device_data}
use Rattle.tape.specs.declared.reader.Record.{Record}
use Rattle.tape.specs.declared.reader.Record.TheVariants.{Stream, Completion, Iso, Close}
use Rattle.lines.specs.Lines.{close_lines}
use Rattle.player.specs.Prints.{feed_text, completion_text}

-- What is printed, the next session, and both buffers.
pub record Play : Type 0 where
  pub text : List ℕ
  pub next : Sess
  pub buffers : Buffers

-- ## A record's stream bytes

-- An event after which nothing more of a record is fed: the session is closed.
abbrev pub ends_stream : Outcome Event → Bool
ends_stream (done list) = true
ends_stream (done (import st)) = not (eqb st 0)
ends_stream (done (break f ts)) = true
ends_stream (refused n) = true
ends_stream (done hungry) = false
ends_stream (done (submit u)) = false
ends_stream (done (answer q st)) = false
ends_stream (done (unlink q st t)) = false

-- One feed, by itself; before the rest of a play.
abbrev pub result_text : Bool → Result → List ℕ
result_text traced r = feed_text traced r.event r.consumed r.length r.buffers.work r.buffers.reply

abbrev pub alone : Bool → Result → Play
alone traced r = record { text = result_text traced r; next = r.next; buffers = r.buffers }

abbrev pub followed_by : Bool → Result → Play → Play
followed_by traced r q = record { text = result_text traced r ++ q.text; next = q.next; buffers = q.buffers }

-- "fed until used up or closed, the rest dropped; an empty one is never fed; on a session already closed any other is fed
-- once"; each feed is given the time 0. (Each feed but a refused one consumes a byte at least, so as many turns as there are bytes are enough.)
unfoldable pub play_stream : Bool → ℕ → Sess → Buffers → List ℕ → Play
play_stream traced zero s b bytes = record { text = []; next = s; buffers = b }
play_stream traced (suc turns) s b bytes =
    let r = fed_of s b bytes 0 in
    cond (ends_stream r.event || eqb r.consumed (length bytes))
    (alone traced r)
    (followed_by traced r (play_stream traced turns r.next r.buffers (drop r.consumed bytes)))

-- ## A completion and a close

-- Of either kind. The device's data are the tape's zeros; the header buffer is a fresh one of the least size.
abbrev pub play_completion : Bool → Kind → (ticket status actual : ℕ) → Sess → Buffers → Play
play_completion traced kind ticket status actual s b =
    let r = complete_of s (handed kind ticket status actual device_data (replicate Limits.HEADER-ROOM 0)) in
    record { text = completion_text traced (length (results_in kind)) ticket actual r.answer r.header; next = r.next; buffers = b }

abbrev pub play_close : Sess → Buffers → Play
play_close s b = let r = close_of s in record { text = close_lines r.answer; next = r.next; buffers = b }

-- ## A record, whose bytes these are

abbrev pub play_record : Bool → Record → List ℕ → Sess → Buffers → Play
play_record traced (Stream count) bytes s b = play_stream traced (length (stream_of count bytes)) s b (stream_of count bytes)
play_record traced (Completion ticket status actual) bytes s b = play_completion traced plain ticket status actual s b
play_record traced (Iso ticket status count) bytes s b =
    let rs = iso_results count bytes in play_completion traced (isochronous rs) ticket status (iso_total rs) s b
play_record traced Close bytes s b = play_close s b
