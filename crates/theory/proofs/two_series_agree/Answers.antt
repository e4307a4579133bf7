use Rattle.theory.proofs.Agreement.{two_series}
use Rattle.theory.proofs.two_series_agree.Goals as goal

pub returns : goal.returns
returns g c = two_series _
