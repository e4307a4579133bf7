-- The constant model: every period has the same charge, unit cost and holding cost.
use Rattle.std.specs.Prelude.{ℕ, ◌+◌, ◌-◌, ◌*◌, cond, ◌||◌, Some, None, Option, nat_lt}
use Rattle.costs.specs.declared.fault.CostFault.{CostFault}
use Rattle.costs.specs.declared.fault.CostFault.TheVariants.{Setup, Unit, Holding}

-- a unit costs its making, and its holding for each period until its use
abbrev pub constant_price : ℕ → ℕ → ℕ → ℕ → ℕ
constant_price unit holding j i = unit + holding * (i - j)

-- why these numbers make no costs of a period: the first that is out of its bounds
abbrev pub cost_fault : ℕ → ℕ → ℕ → Option CostFault
cost_fault setup unit holding =
    cond (nat_lt setup 1 || nat_lt 1000000000 setup) (Some Setup) (cond (nat_lt 100000 unit) (Some Unit) (cond (nat_lt 3000 holding) (Some Holding) None))

-- the number by which each refusal is told
abbrev pub fault_number : CostFault → ℕ
fault_number Setup = 1
fault_number Unit = 2
fault_number Holding = 3
