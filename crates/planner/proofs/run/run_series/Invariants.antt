use Rattle.std.proofs.Common.{◌≡◌, vec_items}
use Rattle.planner.specs.Standing.{charges, forecast}
use Rattle.planner.specs.Tracking.{outlook}
use Rattle.planner.proofs.Running.{Running}
use Rattle.planner.proofs.run.run_series.Given as goal

abbrev pub invariant-loop-call : goal.invariant-loop-call
invariant-loop-call g l =
    (l.planner.model ≡ l.initial.planner.model) ×
    Running (charges g.M.CostModel l.initial.planner.model) (forecast g.F.Feed l.initial.planner.feed) l.calls l.call-index (vec_items l.entries) (outlook g.F.Feed l.planner)
