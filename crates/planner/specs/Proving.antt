-- What a planner keeps beside its rows: the lot that they prove.
use Rattle.std.specs.Prelude.{◌≡◌, Option}
use Rattle.std.specs.Option.{option_map}
use Rattle.theory.specs.Regeneration.{proves}
use Rattle.planner.specs.declared.rows.row.Span.{Span}
use Rattle.planner.specs.Describing.{Window, reading, InEachCase}
use Rattle.planner.specs.Lots.{span_of}

-- the span is that of the lot that is proved, in every case that the window describes
abbrev pub TellsProved : Window → Option Span → Type 0
TellsProved w proved = InEachCase w (λ c. proved ≡ option_map span_of (proves c w.base (reading w)))
