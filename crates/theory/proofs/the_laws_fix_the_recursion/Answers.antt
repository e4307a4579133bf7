use Rattle.theory.proofs.Recursion.{fixed}
use Rattle.theory.proofs.the_laws_fix_the_recursion.Goals as goal

pub returns : goal.returns
returns c = fixed
