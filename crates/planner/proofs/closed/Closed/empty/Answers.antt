use Rattle.std.proofs.Common.{◌≡◌, Ok, Err, is_ok, sym, ap, ◌∙◌, subst}
use Rattle.std.specs.List.{AllByRecursion}
use Rattle.std.proofs.ResultArms.{chosen}
use Rattle.std.proofs.slice.Lists.{all_by_recursion_push}
use Rattle.lots.specs.declared.lot.LotKind.TheVariants.{Closing}
use Rattle.planner.specs.Resting.{TellsRest}
use Rattle.planner.specs.Windows.{window}
use Rattle.planner.proofs.Emptied.{rests_more, rests_done}
use Rattle.planner.proofs.closed.Closed.empty.Goals as goal

pub loop-lot-preserved : goal.loop-lot-preserved
loop-lot-preserved g c =
    let pushed = chosen _ _ _ _ c.push.ensures.items (ap is_ok c.in_ok-push.was) in
    let told = c.in-Ok.ensures in
    let same = c.loop-lot.invariant.0 in (
      ap (λ p. p.rows) told.left.1 ∙ same,
      rests_more _ _ _ _ c.in-Ok.lot _ _ c.loop-lot.invariant.1 (subst (λ r. TellsRest (window r) c.loop-lot.self.after (Ok c.in-Ok.lot)) same told.due)
          (ap (λ p. p.after) told.left.1) pushed,
      subst (AllByRecursion (λ y. y.kind ≡ Closing)) (sym pushed) (all_by_recursion_push _ _ _ c.loop-lot.invariant.2 told.closing),
    )

pub returns : goal.returns
returns g c = record {
  rests = rests_done _ _ _ c.in_default.field-0 _ c.loop-lot.invariant.1
      (subst (λ r. TellsRest (window r) c.loop-lot.self.after (Err c.in_default.field-0)) c.loop-lot.invariant.0 c.in_default.ensures.due);
  closing = c.loop-lot.invariant.2;
  within = c.in_default.ensures.within;
}
