use Rattle.theory.proofs.Kept.{taken_settled}
use Rattle.theory.proofs.the_lots_taken_are_settled.Goals as goal

pub returns : goal.returns
returns g c = taken_settled _
