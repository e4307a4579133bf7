use Rattle.std.proofs.Common.{ap, ◌∙◌, sym}
use Rattle.std.specs.Option.{option_or}
use Rattle.lotfile.specs.LotWords.{end_words}
use Rattle.lotfile.specs.Writing.{count_refused}
use Rattle.lotfile.proofs.Splicing.{written}
use Rattle.lotfile.proofs.writing.write_end.Goals as goal

pub returns-clause-left : goal.returns-clause-left
returns-clause-left c =
    let range = c.in_ok-room.ensures.range in
    let allowed = ap (λ o. option_or o (count_refused c.args.count)) (sym c.in_ok-room.ensures.told) ∙ sym c.in_ok-end.ensures.told in
    written _ c.args.buffer.now c.args.place _ _ _ (end_words c.args.count) allowed range.0 range.1
    (c.copy_from_slice.ensures.after ∙ c.in_ok-end.ensures.bytes)
