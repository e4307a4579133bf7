use Rattle.theory.proofs.Lower.{lower}
use Rattle.theory.proofs.no_plan_is_cheaper_than_the_recursion.Goals as goal

pub returns : goal.returns
returns c = lower
