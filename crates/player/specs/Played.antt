-- What the parts of a play promise.
use Rattle.std.specs.Prelude.{ℕ, ◌≡◌, Bool, List}
use Rattle.model.specs.Acts.{Buffers}
use Rattle.events.specs.Plans.{Result}
use Rattle.session.specs.Views.{view_of}
use Rattle.player.specs.Prints.{Puts}
use Rattle.player.specs.Play.{result_text, ends_stream, Play}
use Rattle.player.specs.declared.feed.Told.{Told}
use Rattle.player.specs.declared.record.Played.{Played}

-- A feed is told: it answered and left what the definition says.
pub record Tells (traced : Bool) (r : Told) (result : Result) (left : Buffers) (entry exit : List ℕ) : Type 0 where
  pub next : view_of r.session ≡ result.next
  pub consumed : r.consumed ≡ result.consumed
  pub last : r.end ≡ ends_stream result.event
  pub buffers : left ≡ result.buffers
  pub lines : Puts (result_text traced result) entry exit r.len

-- A record is played: the same of all its acts.
pub record Plays (r : Played) (play : Play) (left : Buffers) (entry exit : List ℕ) : Type 0 where
  pub next : view_of r.session ≡ play.next
  pub buffers : left ≡ play.buffers
  pub lines : Puts play.text entry exit r.len
