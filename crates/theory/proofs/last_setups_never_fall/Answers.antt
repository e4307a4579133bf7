use Rattle.theory.proofs.Monotone.{monotone}
use Rattle.theory.proofs.last_setups_never_fall.Goals as goal

pub returns : goal.returns
returns c = monotone
