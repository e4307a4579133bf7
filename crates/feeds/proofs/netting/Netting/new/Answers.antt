use Rattle.std.proofs.Common.{◌≡◌, None, vec_items, sym, refl, ap, ◌∙◌}
use Rattle.feeds.specs.Receipts.{supplies, supply_fault}
use Rattle.feeds.proofs.Layers.{supply_right, coming_rising, nets_are}
use Rattle.feeds.proofs.netting.Netting.new.Goals as goal

pub returns-in-Ok : goal.returns-in-Ok
returns-in-Ok g c =
    let right : supply_fault c.args.stock (vec_items c.args.receipts) ≡ None = ap (supply_fault c.args.stock) (sym c.deref.ensures.value) ∙ sym c.in-Ok.ensures in (
      right,
      refl,
      record {
        rising = coming_rising 0 _ (supply_right c.args.stock (vec_items c.args.receipts) right).coming;
        nets = λ gross. c.new.ensures gross ∙ nets_are c.args.stock (supplies (vec_items c.args.receipts)) gross;
      },
    )
