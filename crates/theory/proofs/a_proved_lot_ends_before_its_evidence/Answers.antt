use Rattle.theory.proofs.Proving.{proved_ends}
use Rattle.theory.proofs.a_proved_lot_ends_before_its_evidence.Goals as goal

pub returns : goal.returns
returns c = proved_ends
