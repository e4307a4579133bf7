use Rattle.theory.proofs.Proving.{next_of_plan}
use Rattle.theory.proofs.the_next_lot_follows_the_setups.Goals as goal

pub returns : goal.returns
returns c = next_of_plan
