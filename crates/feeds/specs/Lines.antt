-- What is known of every line of a forecast text.
use Rattle.std.specs.Prelude.{ℕ, ◌^◌, ◌<◌, ◌≤◌, List, length}
use Rattle.feeds.specs.declared.line.Line.{Line}

-- a line that stands at the front of these bytes
pub record LineFits (bs : List ℕ) (l : Line) : Type 0 where
  pub period : l.period < 10 ^ 7
  pub demand : l.demand < 10 ^ 7
  pub some : 1 ≤ l.length
  pub within : l.length ≤ length bs
