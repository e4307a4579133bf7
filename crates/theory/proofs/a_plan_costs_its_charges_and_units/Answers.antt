use Rattle.theory.proofs.Lower.{cost_parts}
use Rattle.theory.proofs.a_plan_costs_its_charges_and_units.Goals as goal

pub returns : goal.returns
returns c = cost_parts
