use Rattle.lots.proofs.Decimals.{reads_back}
use Rattle.lots.proofs.decimal.written_numbers_read_back.Goals as goal

pub returns : goal.returns
returns c = reads_back
