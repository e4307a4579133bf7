use Rattle.theory.proofs.Series.{one_record}
use Rattle.theory.proofs.a_list_of_calls_has_one_record.Goals as goal

pub returns : goal.returns
returns g c = one_record _
