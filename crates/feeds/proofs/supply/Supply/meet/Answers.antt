use Rattle.std.proofs.Common.{◌+◌, ◌-◌, ◌∷◌, sym, ap, ◌∙◌, arith}
use Rattle.feeds.specs.Netting.{net_after}
use Rattle.feeds.specs.Receipts.{netted}
use Rattle.feeds.proofs.supply.Supply.meet.Goals as goal

pub returns : goal.returns
unfolding netted
returns c =
    let s = c.args.self.now in
    let available = ap (λ r. s.stock + r) (sym c.receive.ensures.told) in
    let net = ap (λ a. c.args.gross - a) available ∙ ap (λ g. g - (s.stock + c.receive.result)) (sym c.from-wanted.ensures) ∙ sym c.saturating_sub.ensures in
    let left = ap (λ a. a - c.args.gross) available ∙ ap (λ g. s.stock + c.receive.result - g) (sym c.from-wanted.ensures) ∙ sym c.saturating_sub-self.ensures in
    record {
      net = λ ds. (λ i. net i ∷ net_after s (left i) ds) ∙ ap (λ t. c.saturating_sub.result ∷ t) (sym (c.receive.ensures.later c.saturating_sub-self.result ds));
      less = omega (arith, c.saturating_sub.ensures, c.from-wanted.ensures);
    }
