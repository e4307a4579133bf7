use Rattle.std.proofs.Common.{ap, ◌∙◌}
use Rattle.std.proofs.lemmas.List.{take_rest}
use Rattle.std.proofs.lemmas.Result.{IfOk-weaker}
use Rattle.costs.specs.Constants.{constant_lawful}
use Rattle.reporting.specs.Printing.{printed_plan}
use Rattle.reporting.proofs.Planned.{planned_lem, planned_fits}
use Rattle.reporting.proofs.print.print_input.Goals as goal

pub returns-in_ok-planned-in-Ok : goal.returns-in_ok-planned-in-Ok
returns-in_ok-planned-in-Ok g c =
    let planned = planned_lem g.P.Planning.due (λ text. g.F.Format.forecast text 0 0) c.args.input.now _ _ _ c.in-Ok.ensures.told (c.new.ensures.whole ∙ ap (λ text. g.F.Format.forecast text 0 0) (take_rest c.args.input.now c.in-Ok.costs.length)) c.in_ok-planned-in-Ok.ensures in
    IfOk-weaker c.print_plan.result _ _ (λ v e. e ∙ ap printed_plan planned) c.print_plan.ensures

pub print_plan-requires : goal.print_plan-requires
print_plan-requires g c =
    let m = c.in-Ok.costs.model in
    let lawful = constant_lawful m.setup m.unit m.holding m.charged m.setup_fits m.unit_fits m.holding_fits in
    let fits = planned_fits g.P.Planning.due g.met.P.Planning.fits _ _ _ lawful (g.met.F.Format.small _ _ _) c.in_ok-planned-in-Ok.ensures in
    fits.0
