use Rattle.theory.proofs.Emptying.{emptying}
use Rattle.theory.proofs.emptying_hands_out_the_rest.Goals as goal

pub returns : goal.returns
returns c = emptying
