-- What comes of making a dated model.
use Rattle.std.specs.Prelude.{◌≡◌, List, Some, None, Ok, Err, Result}
use Rattle.lots.specs.declared.failure.Failure.{Failure}
use Rattle.lots.specs.declared.failure.Failure.TheVariants.{Refused, NoMemory}
use Rattle.costs.specs.declared.line.CostLine.{CostLine}
use Rattle.costs.specs.declared.dated.DatedCosts.{DatedCosts}
use Rattle.costs.specs.declared.lines.DatedCostsFault.{DatedCostsFault}
use Rattle.costs.specs.Dated.{lines_fault}

-- a making comes to a model of exactly these lines, to the refusal that they earn, or, where they earn none, to no memory
abbrev pub Made : List CostLine → Result DatedCosts (Failure DatedCostsFault) → Type 0
Made lines (Ok m) = (lines_fault lines ≡ None) × (m.lines ≡ lines)
Made lines (Err (Refused f)) = lines_fault lines ≡ Some f
Made lines (Err (NoMemory e)) = lines_fault lines ≡ None
