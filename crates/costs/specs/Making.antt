-- What comes of making a model.
use Rattle.std.specs.Prelude.{ℕ, Some, None, Ok, Err, Result}
use Rattle.costs.specs.declared.fault.CostFault.{CostFault}
use Rattle.costs.specs.declared.constant.ConstantCosts.{ConstantCosts}
use Rattle.costs.specs.Constant.{cost_fault}

-- the three numbers of a constant model
pub record Terms : Type 0 where
  pub setup : ℕ
  pub unit : ℕ
  pub holding : ℕ

-- what a making came to: the numbers of the model, or the fault
abbrev pub outcome : Result ConstantCosts CostFault → Result Terms CostFault
outcome (Ok m) = Ok (record { setup = m.setup; unit = m.unit; holding = m.holding })
outcome (Err f) = Err f

-- what the making of these numbers has to come to
abbrev pub due : ℕ → ℕ → ℕ → Result Terms CostFault
due setup unit holding = elim (cost_fault setup unit holding) [ None ↦ Ok (record { setup = setup; unit = unit; holding = holding }) | Some f ↦ Err f ]
