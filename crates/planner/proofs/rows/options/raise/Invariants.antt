use Rattle.std.proofs.Common.{suc, ◌+◌, ◌*◌, ◌≤◌, length, get_or}
use Rattle.planner.specs.Describing.{options_of}
use Rattle.planner.proofs.Choosing.{Walked}
use Rattle.planner.proofs.rows.options.raise.Given as goal

abbrev pub invariant-loop-place : goal.invariant-loop-place
invariant-loop-place g l =
    (l.first ≤ l.place) ×
    Walked (λ k. get_or (options_of l.initial.periods) k 0 + l.asked.demand * g.M.CostModel.V l.asked.model.now (suc (l.base + k)) (suc (l.base + length l.initial.periods)))
    l.initial.periods l.periods l.place l.own l.best.cost l.best.place
