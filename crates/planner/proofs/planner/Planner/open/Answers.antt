use Rattle.planner.proofs.Following.{empty_proves}
use Rattle.planner.proofs.planner.Planner.open.Goals as goal

pub invariant_of-result : goal.invariant_of-result
invariant_of-result g c = (empty_proves _ c.in-Ok.ensures, tt)
