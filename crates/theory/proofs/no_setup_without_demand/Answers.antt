use Rattle.theory.proofs.Idle.{no_setup_without_demand_lem}
use Rattle.theory.proofs.no_setup_without_demand.Goals as goal

pub returns : goal.returns
returns c = no_setup_without_demand_lem
