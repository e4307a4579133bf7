use Rattle.std.proofs.Common.{vec_items}
use Rattle.costs.proofs.Keeping.{Kept}
use Rattle.costs.proofs.dated.making.held_lines.Given as goal

abbrev pub invariant-loop-line : goal.invariant-loop-line
invariant-loop-line l = Kept l.lines l.line-index (vec_items l.held_lines)
