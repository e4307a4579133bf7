use Rattle.theory.proofs.Rolling.{window_tells}
use Rattle.theory.proofs.the_window_tells_the_last_setup.Goals as goal

pub returns : goal.returns
returns c = window_tells
