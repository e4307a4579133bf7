use Rattle.std.proofs.Common.{ap, ◌∙◌, rules, tests}
use Rattle.std.proofs.lemmas.List.{take_all}
use Rattle.lotfile.proofs.Filing.{lots_bytes, lots_pushed, file_ended}
use Rattle.lotfile.proofs.whole.file.Goals as goal

pub loop-lot-preserved : goal.loop-lot-preserved
loop-lot-preserved c =
    lots_pushed _ _ _ c.args.lots.now c.loop-lot.lot-index c.lot-item.result c.lot-item.result c.loop-lot-test.true c.loop-lot.invariant c.lot-item.is
    (c.as_flattened.ensures.value ∙ c.lot_bytes.ensures) c.in_ok-extend_from_slice.ensures.items

pub returns : goal.returns
returns c = (
  search (rules, tests),
  file_ended _ _ _ c.args.lots.now (c.loop-lot.invariant ∙ ap lots_bytes (take_all _ _ c.loop-lot-test.false)) c.in_ok-end.ensures.bytes
      c.in_ok-extend_from_slice-2.ensures.items,
)
