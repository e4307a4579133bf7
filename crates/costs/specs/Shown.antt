-- What a dated model shows of itself: its lines, which make a model.
use Rattle.std.specs.Prelude.{◌≡◌, ℕ, false, List, map, is_some}
use Rattle.costs.specs.declared.line.CostLine.{CostLine}
use Rattle.costs.specs.Dated.{holding_before, lines_fault}

-- lines that make a model
pub record Shown : Type 0 where
  pub lines : List CostLine
  pub right : is_some (lines_fault lines) ≡ false

-- the sums that are kept, one for each line
abbrev pub Summed : List CostLine → List ℕ → Type 0
Summed lines hs = hs ≡ map (λ x. holding_before lines x.date) lines
