-- A completion, played.
use Prim.Native.Nat.{ℕ}
use mathlib.Core.Path.{◌≡◌, refl, ap, subst}
use mathlib.Core.Bool.{Bool}
use mathlib.Core.List.{List}
use lib.ListN.{length, replicate}
use Rattle.limits.specs.Limits
use Rattle.model.specs.State.{Sess}
use Rattle.model.specs.Acts.{Buffers, Kind, results_in, Complete, complete_of}
use Rattle.std.specs.Prelude.{Result}
use Rattle.verdicts.specs.Numbers.{by_number}
use Rattle.events.specs.declared.answer.Returned.{Returned}
use Rattle.events.specs.Answers.{completion_by}
use Rattle.session.specs.Views.{completed_as, handed}
use Rattle.session.specs.declared.answer.Completed.{Completed}
use Rattle.tape.specs.Table.{device_data}
use Rattle.player.specs.Prints.{Puts, completion_text}
use Rattle.player.specs.Play.{play_completion}
use Rattle.player.specs.Played.{Plays}

pub completion_played : (traced : Bool) (kind : Kind) (packets ticket status actual : ℕ) (r : Completed) (s : Sess)
    (payload left entry exit : List ℕ) (len : ℕ)
    → payload ≡ device_data
    → packets ≡ length (results_in kind)
    → completed_as r left ≡ complete_of s (handed kind ticket status actual payload (replicate Limits.HEADER-ROOM 0))
    → (a : Result Returned ℕ) → a ≡ by_number r.answer
    → Puts (completion_text traced packets ticket actual (completion_by a) left) entry exit len
    → (b : Buffers) → Plays (record { session = r.session; len = len }) (play_completion traced kind ticket status actual s b) b entry exit
completion_played traced kind packets ticket status actual r s payload left entry exit len f n e a h p b =
    let d : completed_as r left ≡ complete_of s (handed kind ticket status actual device_data (replicate Limits.HEADER-ROOM 0)) = rw f at e in
    let text = completion_text traced (length (results_in kind)) ticket actual in
    record {
      next = ap (λ (x : Complete). x.next) d;
      buffers = refl;
      lines = subst (λ (x : Complete). Puts (text x.answer x.header) entry exit len) d (rw (n, h) at p);
    }
