use Rattle.theory.proofs.Proving.{agreed}
use Rattle.theory.proofs.a_lot_is_proved_where_the_horizons_agree.Goals as goal

pub returns : goal.returns
returns c = agreed
