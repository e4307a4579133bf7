use Rattle.theory.proofs.Runs.{freezing_right}
use Rattle.theory.proofs.freezing_is_right_for_every_continuation.Goals as goal

pub returns : goal.returns
returns g c = freezing_right _
