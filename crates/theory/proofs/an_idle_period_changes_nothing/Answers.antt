use Rattle.theory.proofs.Idle.{idle_period}
use Rattle.theory.proofs.an_idle_period_changes_nothing.Goals as goal

pub returns : goal.returns
returns c = idle_period
