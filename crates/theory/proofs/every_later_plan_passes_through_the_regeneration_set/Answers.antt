use Rattle.theory.proofs.Regeneration.{regenerates}
use Rattle.theory.proofs.every_later_plan_passes_through_the_regeneration_set.Goals as goal

pub returns : goal.returns
returns c = regenerates
