use Rattle.theory.proofs.Rolling.{next_row}
use Rattle.theory.proofs.the_window_gives_the_next_row.Goals as goal

pub returns : goal.returns
returns c = next_row
