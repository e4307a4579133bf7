use Rattle.theory.proofs.Regeneration.{rests_on_its_periods}
use Rattle.theory.proofs.the_recursion_rests_on_its_periods.Goals as goal

pub returns : goal.returns
returns c = rests_on_its_periods
