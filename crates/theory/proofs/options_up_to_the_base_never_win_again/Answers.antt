use Rattle.theory.proofs.Rolling.{ahead}
use Rattle.theory.proofs.options_up_to_the_base_never_win_again.Goals as goal

pub returns : goal.returns
returns c = ahead
