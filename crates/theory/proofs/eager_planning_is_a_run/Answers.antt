use Rattle.theory.proofs.Eagerly.{eager_run}
use Rattle.theory.proofs.eager_planning_is_a_run.Goals as goal

pub returns : goal.returns
returns g c = eager_run _
