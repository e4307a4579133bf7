use Rattle.theory.proofs.Proving.{decided}
use Rattle.theory.proofs.the_test_finds_what_is_proved.Goals as goal

pub returns : goal.returns
returns c = decided
