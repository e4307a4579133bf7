use Rattle.theory.proofs.Runs.{whole_run}
use Rattle.theory.proofs.every_series_obeys_the_law_of_whole_runs.Goals as goal

pub returns : goal.returns
returns g c = whole_run _
