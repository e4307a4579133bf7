use Rattle.std.proofs.Common.{vec_items, true, sym, subst, ◌≡◌, arith}
use Rattle.feeds.specs.Receipts.{coming_from}
use Rattle.feeds.proofs.Layers.{Right, supply_right}
use Rattle.feeds.proofs.supply.Supply.new.Goals as goal

pub invariant_of-result : goal.invariant_of-result
invariant_of-result c =
    let right : Right c.args.stock (vec_items c.args.receipts) = supply_right _ _ c.requires in
    record {
      few = omega (arith, right.few, c.args.receipts.ok.0, c.into.ensures.1);
      bounded = omega (arith, right.bounded, right.few, c.args.receipts.ok.0, c.into.ensures.1);
      coming = subst (λ xs. coming_from 1 xs ≡ true) (sym c.into.ensures.0) right.coming;
    }
