use Rattle.std.proofs.Common.{◌≡◌, [], Ok, Err, sym, ap, ◌∙◌}
use Rattle.std.proofs.lemmas.Result.{err_from_is_err_and}
use Rattle.theory.specs.Endings.{finished_feed, faulty_feed}
use Rattle.feeds.specs.Feeding.{others}
use Rattle.feeds.specs.SmallDemands.{net_small}
use Rattle.feeds.proofs.Layers.{below_fault, below_demand, told_fault, told_finished, net_none, tell_fault, tell_finished, none_left}
use Rattle.feeds.proofs.netting.NettingFeed.next.Goals as goal
use Rattle.feeds.proofs.netting.NettingFeed.next.Goals.{After-from_residual, In_default}

-- the feed below has come to a fault, and tells no demand
fault_is : (g : _) (c : After-from_residual g) → (g.F.Feed.demands c.args.self.now.feed ≡ []) × (g.F.Feed.ending c.args.self.now.feed ≡ faulty_feed c.in_err-gross.field-0.0.0)
fault_is g c = told_fault _ _ _ (sym (below_fault c.next.result c.in_err-gross.field-0.0 _ c.in_err-gross.ensures.cases) ∙ c.next.ensures.told)

pub returns-in_err-gross-clause-told : goal.returns-in_err-gross-clause-told
returns-in_err-gross-clause-told g c =
    let is = fault_is g c in
    let p = err_from_is_err_and c.from_residual.result c.from_residual.ensures.1 in
    p.1 ∙ ap Err p.2 ∙ tell_fault _ _ _ (net_none _ _ _ _ is.0) is.1

pub returns-in_err-gross-clause-others : goal.returns-in_err-gross-clause-others
returns-in_err-gross-clause-others g c =
    let is = fault_is g c in none_left _ _ (net_none _ _ _ _ is.0) (net_none _ _ _ _ (c.next.ensures.others ∙ ap others is.0))

-- the feed below has come to its end
end_is : (g : _) (c : In_default g) → (g.F.Feed.demands c.args.self.now.feed ≡ []) × (g.F.Feed.ending c.args.self.now.feed ≡ finished_feed)
end_is g c = told_finished _ _ (ap Ok (sym c.in_default.is) ∙ sym (below_demand _ c.next.result _ c.in_ok-gross.ensures.cases) ∙ c.next.ensures.told)

pub returns-in_default-clause-told : goal.returns-in_default-clause-told
returns-in_default-clause-told g c = let is = end_is g c in tell_finished _ _ (net_none _ _ _ _ is.0) is.1

pub returns-in_default-clause-others : goal.returns-in_default-clause-others
returns-in_default-clause-others g c =
    let is = end_is g c in none_left _ _ (net_none _ _ _ _ is.0) (net_none _ _ _ _ (c.next.ensures.others ∙ ap others is.0))

pub returns-in_err-gross-clause-small : goal.returns-in_err-gross-clause-small
returns-in_err-gross-clause-small g c = net_small _ _ _ _ c.next.ensures.small

pub returns-in_default-clause-small : goal.returns-in_default-clause-small
returns-in_default-clause-small g c = net_small _ _ _ _ c.next.ensures.small

pub returns-clause-small : goal.returns-clause-small
returns-clause-small g c = net_small _ _ _ _ c.next.ensures.small
