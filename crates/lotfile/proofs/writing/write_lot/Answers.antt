use Rattle.std.proofs.Common.{◌∙◌, sym}
use Rattle.lots.specs.Lots.{terms}
use Rattle.lotfile.specs.LotWords.{words_of_lot}
use Rattle.lotfile.proofs.Splicing.{written}
use Rattle.lotfile.proofs.writing.write_lot.Goals as goal

pub returns-clause-left : goal.returns-clause-left
returns-clause-left c =
    let range = c.in_ok-room.ensures.range in
    written _ c.args.buffer.now c.args.place _ _ _ (words_of_lot (terms c.args.lot)) (sym c.in_ok-room.ensures.told) range.0 range.1
    (c.copy_from_slice.ensures.after ∙ c.as_flattened.ensures.value ∙ c.lot_bytes.ensures)
