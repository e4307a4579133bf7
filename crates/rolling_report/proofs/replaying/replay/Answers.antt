use Rattle.std.proofs.Common.{map, ap, ◌∙◌}
use Rattle.std.proofs.lemmas.List.{take_rest}
use Rattle.std.proofs.lemmas.Result.{IfOk-weaker}
use Rattle.costs.specs.Constant.{constant_price}
use Rattle.costs.specs.Constants.{constant_lawful}
use Rattle.feeds.specs.Forecasts.{Forecast}
use Rattle.feeds.specs.SmallDemands.{text_small as small}
use Rattle.feeds.specs.Text.{forecast}
use Rattle.planner.specs.Answers.{call_of}
use Rattle.rolling_report.specs.Replaying.{replay_due, replay_at, replayed}
use Rattle.rolling_report.proofs.Replayed.{series_fits, series_printed}
use Rattle.rolling_report.proofs.replaying.replay.Goals as goal

pub print_series-requires-clause-fits : goal.print_series-requires-clause-fits
print_series-requires-clause-fits c =
    let ran = c.in_ok-series-in-Ok.ensures in
    let m = c.in-Ok.costs.model in
    let lawful = constant_lawful m.setup m.unit m.holding m.charged m.setup_fits m.unit_fits m.holding_fits in
    series_fits _ _ _ _ _ _ ran.law ran.due lawful (small _ _ _)

pub returns-in_ok-series-in-Ok : goal.returns-in_ok-series-in-Ok
unfolding replayed
returns-in_ok-series-in-Ok c =
    let m = c.in-Ok.costs.model in
    IfOk-weaker c.print_series.result _ _
    (λ v e. e ∙ series_printed _ _ _ _ _ _ c.in_ok-series-in-Ok.ensures.law c.in_ok-series-in-Ok.ensures.due
    ∙ ap (λ (f : Forecast). replay_due (λ _. m.setup) (constant_price m.unit m.holding) f.demands f.ending (map call_of c.args.calls.now)) (c.new.ensures.whole ∙ ap (forecast 0 0) (take_rest c.args.input.now c.in-Ok.costs.length))
    ∙ ap (replay_at c.args.calls.now) c.in-Ok.ensures.told)
    c.print_series.ensures

pub returns-in-Err : goal.returns-in-Err
unfolding replayed
returns-in-Err c =
    IfOk-weaker c.refusal_line.result _ _ (λ v e. e ∙ ap (replay_at c.args.calls.now) c.in-Err.ensures.told) c.refusal_line.ensures
