-- From a cost line to the costs of its input.
use Rattle.std.proofs.Common.{◌≡◌, ℕ, List, Some, None, Ok, Err, Option, Result, drop, refl, ap, ◌∙◌}
use Rattle.costs.specs.declared.fault.CostFault.{CostFault}
use Rattle.costs.specs.Constant.{cost_fault}
use Rattle.costs.specs.Making.{Terms, due}
use Rattle.reporting.specs.declared.cost_line.CostLine.{CostLine}
use Rattle.reporting.specs.declared.refusal.Refusal.{Refusal}
use Rattle.reporting.specs.declared.refusal.Refusal.TheVariants.{Costs}
use Rattle.reporting.specs.Costing.{Priced, costs_of_line}

-- what came of making a line's model, as costs of an input
abbrev pub of_making : List ℕ → Result Terms CostFault → Result Priced Refusal
of_making rest (Ok t) = Ok (record { setup = t.setup; unit = t.unit; holding = t.holding; rest = rest })
of_making rest (Err f) = Err (Costs f)

pub costs_from_making : (bs : List ℕ) (l : CostLine) (r : Result Terms CostFault) → r ≡ due l.setup l.unit l.holding →
    of_making (drop l.length bs) r ≡ costs_of_line bs (Some l)
costs_from_making bs l r e = ap (of_making (drop l.length bs)) e ∙ go (cost_fault l.setup l.unit l.holding)
  where
    go : (o : Option CostFault) →
        of_making (drop l.length bs) (elim o [ None ↦ Ok (record { setup = l.setup; unit = l.unit; holding = l.holding }) | Some f ↦ Err f ])
        ≡ elim o [ None ↦ Ok (record { setup = l.setup; unit = l.unit; holding = l.holding; rest = drop l.length bs }) | Some f ↦ Err (Costs f) ]
    go None = refl
    go (Some f) = refl
