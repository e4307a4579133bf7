use Rattle.planner.proofs.rows.Rows.+next_span.Given as goal

abbrev pub decreases-next_span : goal.decreases-next_span
decreases-next_span l = l.horizon
