use Rattle.theory.proofs.Rolling.{settling}
use Rattle.theory.proofs.frozen_lots_stay_settled.Goals as goal

pub returns : goal.returns
returns c = settling
