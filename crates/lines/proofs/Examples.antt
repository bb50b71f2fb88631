-- The definitions give the sample tape's lines, whole, and one of each other line.
use mathlib.Core.Path.{◌≡◌, refl}
use mathlib.Core.List.{[], ◌∷◌, ◌++◌}
use mathlib.Core.Option.{some}
use lib.ListN.{replicate}
use Rattle.wire.specs.Codes
use Rattle.wire.specs.Status.{minus}
use Rattle.packets.specs.Packets.{in_array}
use Rattle.pending.specs.declared.urb.Urb.{Urb}
use Rattle.verdicts.specs.Verdicts.{fault}
use Rattle.model.specs.Answers.{refused, done, hungry, list, import, submit, answer, unlink, break}
use Rattle.numerals.specs.Digits
use Rattle.numerals.specs.Digits.{ascii}
use Rattle.lines.specs.Lines.{feed_lines, completion_lines, close_lines, end_line}

-- the kernel document's CmdIntrIN, as the first of a session
abbrev urb : Urb
urb =
    record {
      ticket = 1;
      transfer = record { seqnum = 3333; direction = 1; ep = 1; flags = 512; length = 64; start = 0xffffffff; packets = 0; interval = 4 };
      setup = replicate Codes.SETUP-LEN 0;
      arrival = 0;
      iso = in_array [];
    }

pub example :
    feed_lines (done (import 0))
    ++ feed_lines (done (submit urb))
    ++ completion_lines 1 64 (done (record { wire = 112; status = 0 }))
    ++ close_lines (done [])
    ++ end_line (record { accepted = 1; pending = 0; returned = 1; unlinked = 0; dropped = 0 })
    ≡ ascii "import 0\nsubmit 1 3333\nreturn 1 0 64\nclosed\nend 1 0 1 0 0\n"
unfolding Digits.numeral Digits.digits
example = refl

pub other_lines :
    feed_lines (done hungry)
    ++ feed_lines (done list)
    ++ feed_lines (done (answer 3334 (minus Codes.ENODEV)))
    ++ feed_lines (done (unlink 3335 (minus Codes.ECONNRESET) (some 1)))
    ++ feed_lines (done (break (fault 12 0) (2 ∷ 10 ∷ [])))
    ++ completion_lines 2 63 (done (record { wire = 111; status = minus Codes.EREMOTEIO }))
    ++ completion_lines 1 64 (refused 3)
    ++ close_lines (done (4 ∷ []))
    ≡ ascii "list\nanswer 3334 -19\nunlink 3335 -104\nbroken 12 at 0\ndropped 2\ndropped 10\nreturn 2 -121 63\nrefused 3\nclosed\ndropped 4\n"
unfolding Digits.numeral Digits.digits
other_lines = refl
