use Rattle.theory.proofs.Recursion.{obeys}
use Rattle.theory.proofs.the_recursion_obeys_its_laws.Goals as goal

pub returns : goal.returns
returns c = obeys
