use Rattle.std.proofs.Common.{Ok, sym, ap, ◌∙◌, inr, arith}
use Rattle.std.proofs.lemmas.Result.{err_from_is_err_and}
use Rattle.planner.proofs.Feeding.{told_some, told_end, told_fault}
use Rattle.planner.proofs.Planning.{reading_none, reading_more, planned_fault, planned_whole}
use Rattle.planner.proofs.whole.cheapest_plan.Goals as goal

pub loop-heap-init : goal.loop-heap-init
loop-heap-init g c = reading_none _ _ _ c.in_ok-rows.ensures

pub returns-in_err-demand : goal.returns-in_err-demand
returns-in_err-demand g c =
    let p = err_from_is_err_and c.from_residual-in_err-demand.result c.from_residual-in_err-demand.ensures.1 in
    let end = told_fault _ _ _ (sym c.in_err-demand.was ∙ c.next.ensures.told) in
    rw (p.1, p.2) (inr (planned_fault _ _ _ c.loop-heap.invariant (omega (arith, c.len.ensures)) end.0 _ end.1))

pub returns-in_default : goal.returns-in_default
returns-in_default g c =
    let end = told_end _ _ (sym (ap Ok c.in_default.is) ∙ sym c.in_ok-demand.was ∙ c.next.ensures.told) in
    let emptied = c.in_ok-empty.ensures in
    planned_whole _ _ _ c.loop-heap.invariant (omega (arith, c.len.ensures)) end.0 _ end.1 (rw c.new-in_default.ensures at emptied.rests) emptied.closing

pub loop-heap-preserved : goal.loop-heap-preserved
loop-heap-preserved g c =
    let next = told_some _ _ _ (sym (ap Ok c.in-Some.is) ∙ sym c.in_ok-demand.was ∙ c.next.ensures.told) in
    reading_more _ (g.met.M.CostModel.lawful c.args.model.now) _ _ _ _ c.loop-heap.invariant next c.next.ensures.others c.next.ensures.ending c.push.ensures
