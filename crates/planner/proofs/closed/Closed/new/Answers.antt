use Rattle.std.proofs.Common.{rules}
use Rattle.planner.proofs.Standing.{same_after}
use Rattle.planner.proofs.closed.Closed.new.Goals as goal

pub returns : goal.returns
returns g c = same_after _ _ _ (search rules)
