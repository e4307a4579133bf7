use Rattle.std.proofs.Common.{◌-◌, length}
use Rattle.planner.specs.Standing.{charges, forecast}
use Rattle.planner.specs.Windows.{window}
use Rattle.planner.proofs.Planning.{Reading}
use Rattle.planner.proofs.whole.cheapest_plan.Given as goal

abbrev pub invariant-loop-heap : goal.invariant-loop-heap
invariant-loop-heap g l =
    Reading (charges g.M.CostModel l.model) (forecast g.F.Feed l.initial.feed) (record { window = window l.rows; left = forecast g.F.Feed l.feed })

abbrev pub decreases-loop-heap : goal.decreases-loop-heap
decreases-loop-heap g l = 256 - length (window l.rows).rows
