use Rattle.std.proofs.Common.{◌≡◌, ◌<◌, ◌^◌, sum_by, ◌∙◌, rules, arith}
use Rattle.planner.specs.Answers.{answer_of}
use Rattle.planner.specs.declared.calls.Entry.{Entry}
use Rattle.rolling_report.specs.Replaying.{answer_cost}
use Rattle.rolling_report.proofs.Series.{frozen_by_answers}
use Rattle.rolling_report.proofs.replaying.cost_of_taken.Goals as goal

pub sum-requires-clause-fits : goal.sum-requires-clause-fits
sum-requires-clause-fits c =
    let fits : sum_by (λ (e : Entry). answer_cost (answer_of e.answer)) c.args.entries.now < 2 ^ 64 = omega (arith, frozen_by_answers c.args.entries.now, c.requires) in
    search rules

pub returns : goal.returns
returns c =
    let summed : c.sum.result ≡ sum_by (λ (e : Entry). answer_cost (answer_of e.answer)) c.args.entries.now = search rules in
    summed ∙ frozen_by_answers c.args.entries.now
