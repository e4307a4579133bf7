use Rattle.lots.proofs.ReadBack.{words_read_back}
use Rattle.lots.proofs.word.written_words_read_back.Goals as goal

pub returns : goal.returns
returns c = words_read_back
