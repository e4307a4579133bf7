use Rattle.theory.proofs.Proving.{next_own}
use Rattle.theory.proofs.a_next_lot_is_the_recursions_own.Goals as goal

pub returns : goal.returns
returns c = next_own
