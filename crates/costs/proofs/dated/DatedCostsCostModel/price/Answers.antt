use Rattle.std.proofs.Common.{sym, ap, arith}
use Rattle.costs.specs.InForce.{fair_at}
use Rattle.costs.specs.Told.{none_of, priced, held_less, price_by_sums, price_told_lem}
use Rattle.costs.proofs.dated.DatedCostsCostModel.price.Goals as goal

pub overflow_sub-held : goal.overflow_sub-held
overflow_sub-held c = omega (arith, held_less c.args.self.now.lines c.args.j c.args.i _ _ (sym c.if-no_price.ensures) c.in_force-used.ensures.held c.in_force-made.ensures.held)

pub overflow_add-result : goal.overflow_add-result
overflow_add-result c =
    let h = priced c.args.j c.args.i (sym c.if-no_price.ensures) in
    omega (arith, ap (λ x. x.unit) c.in_force-made.ensures.line, (fair_at _ c.args.j (none_of _ c.args.self.now.right) h.0).unit_fits)

pub returns : goal.returns
returns c =
    let e = sym c.if-no_price.ensures in
    price_told_lem c.args.self.now.lines c.args.j c.args.i _ e
    (omega (arith, price_by_sums c.args.self.now.lines c.args.j c.args.i e, ap (λ x. x.unit) c.in_force-made.ensures.line, c.in_force-made.ensures.held, c.in_force-used.ensures.held))
