use Rattle.theory.proofs.Attained.{cheapest_lots}
use Rattle.theory.proofs.the_plan_of_a_horizon_is_a_cheapest_plan.Goals as goal

pub returns : goal.returns
returns c = cheapest_lots
