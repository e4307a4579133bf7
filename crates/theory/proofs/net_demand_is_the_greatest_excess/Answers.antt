use Rattle.theory.proofs.Netting.{net_is_greatest_excess}
use Rattle.theory.proofs.net_demand_is_the_greatest_excess.Goals as goal

pub returns : goal.returns
returns c = net_is_greatest_excess
