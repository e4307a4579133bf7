-- The costs of an input: those that its first line names, or why there are none.
use Rattle.std.specs.Prelude.{ℕ, cond, List, length, drop, Some, None, Ok, Err, Option, Result, nat_lt}
use Rattle.costs.specs.Constant.{cost_fault}
use Rattle.reporting.specs.declared.cost_line.CostLine.{CostLine}
use Rattle.reporting.specs.declared.costing.Costs.{Costs as CostsOf}
use Rattle.reporting.specs.declared.refusal.Refusal.{Refusal}
use Rattle.reporting.specs.declared.refusal.Refusal.TheVariants.{TooLong, OtherLayout, Costs}
use Rattle.reporting.specs.CostLines.{cost_line_of}

-- the costs that an input names, and the bytes behind their line
pub record Priced : Type 0 where
  pub setup : ℕ
  pub unit : ℕ
  pub holding : ℕ
  pub rest : List ℕ

-- the costs of the line at the front of bs, and what is behind it
abbrev pub priced : List ℕ → CostLine → Priced
priced bs l = record { setup = l.setup; unit = l.unit; holding = l.holding; rest = drop l.length bs }

-- the same of a line that may not be there, if its costs are in bounds
abbrev pub costs_of_line : List ℕ → Option CostLine → Result Priced Refusal
costs_of_line bs None = Err OtherLayout
costs_of_line bs (Some l) = elim (cost_fault l.setup l.unit l.holding) [ None ↦ Ok (priced bs l) | Some f ↦ Err (Costs f) ]

-- the costs of an input of at most 65,536 bytes
unfoldable pub costs_due : List ℕ → Result Priced Refusal
costs_due bs = cond (nat_lt 65536 (length bs)) (Err TooLong) (costs_of_line bs (cost_line_of bs))

-- a model by its values, and the bytes of bs behind its line
abbrev pub costs_told : List ℕ → Result CostsOf Refusal → Result Priced Refusal
costs_told bs (Ok c) = Ok (record { setup = c.model.setup; unit = c.model.unit; holding = c.model.holding; rest = drop c.length bs })
costs_told bs (Err r) = Err r
