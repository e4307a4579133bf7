use Rattle.theory.proofs.Figures.{figures}
use Rattle.theory.proofs.worked_figures_hold.Goals as goal

pub returns : goal.returns
returns c = figures
