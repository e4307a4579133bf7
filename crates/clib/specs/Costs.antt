-- The cost lines that bytes describe.
use Rattle.std.specs.Prelude.{ℕ, List, map, Ok, Result, slice_index}
use Rattle.costs.specs.declared.dated.DatedCosts.{DatedCosts}
use Rattle.costs.specs.declared.line.CostLine.{CostLine}
use Rattle.costs.specs.Dated.{lines_fault}
use Rattle.clib.specs.declared.error.Refusal.{Refusal}
use Rattle.clib.specs.declared.error.Refusal.TheVariants.{Costs}
use Rattle.clib.specs.Groups.{groups_due}
use Rattle.clib.specs.Numbers.{numbers_due}
use Rattle.clib.specs.Outcomes.{and_then, unless}

-- the line that four numbers are: its date, setup charge, unit cost and holding cost
abbrev pub line_of : List ℕ → CostLine
line_of ns = record { date = slice_index ns 0; setup = slice_index ns 1; unit = slice_index ns 2; holding = slice_index ns 3 }

-- the lines that numbers are, if no number is left over
abbrev pub lines_due : List ℕ → Result (List CostLine) Refusal
lines_due ns = and_then (groups_due 4 ns) (λ gs. Ok (map line_of gs))

-- the lines of a model
abbrev pub lines_of : DatedCosts → List CostLine
lines_of m = m.lines

-- lines that a model can be made of
abbrev pub lawful_lines : List CostLine → Result (List CostLine) Refusal
lawful_lines ls = unless (lines_fault ls) Costs ls

-- the lines of the cost model that bytes describe
abbrev pub costs_due : List ℕ → Result (List CostLine) Refusal
costs_due bs = and_then (numbers_due bs) (λ ns. and_then (lines_due ns) lawful_lines)
