use Rattle.theory.proofs.Proving.{rest_by_lot}
use Rattle.theory.proofs.the_rest_comes_lot_by_lot.Goals as goal

pub returns : goal.returns
returns c = rest_by_lot
