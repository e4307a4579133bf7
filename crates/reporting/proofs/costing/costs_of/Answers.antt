use Rattle.std.proofs.Common.{sym, ap, ◌∙◌, rules, tests, Some, Err, ◌≡◌}
use Rattle.std.proofs.lemmas.Result.{err_from_is_err_and, IfOk-from_err}
use Rattle.std.proofs.lemmas.Bool.{cond-true, cond-false, lt-ltb, le-ltb}
use Rattle.reporting.specs.Costing.{costs_of_line, costs_due, costs_told}
use Rattle.reporting.proofs.Models.{costs_from_making}
use Rattle.reporting.proofs.costing.costs_of.Goals as goal

pub returns-then-input-gt-LONGEST : goal.returns-then-input-gt-LONGEST
unfolding costs_due
returns-then-input-gt-LONGEST c = record { told = sym (cond-true _ _ _ (lt-ltb _ _ c.if-input-gt-LONGEST.true)); within = tt }

pub returns-in_err-line : goal.returns-in_err-line
unfolding costs_due
returns-in_err-line c = search (rules, tests)

pub returns-in_err-model : goal.returns-in_err-model
unfolding costs_due
returns-in_err-model c =
    let p = err_from_is_err_and c.from_residual-in_err-model.result c.from_residual-in_err-model.ensures.1 in
    let line : c.cost_line_at.result ≡ Some c.in_ok-line.line = search rules in
    record {
      told =
          ap (costs_told c.args.input.now) p.1 ∙ ap Err p.2 ∙ costs_from_making c.args.input.now c.in_ok-line.line _ c.in_err-model.ensures
          ∙ ap (costs_of_line c.args.input.now) (sym line ∙ c.cost_line_at.ensures.told) ∙ sym (cond-false _ _ _ (le-ltb _ _ c.if-input-gt-LONGEST.false));
      within = IfOk-from_err _ _ c.from_residual-in_err-model.ensures.0;
    }

pub returns : goal.returns
unfolding costs_due
returns c =
    let line : c.cost_line_at.result ≡ Some c.in_ok-line.line = search rules in
    record {
      told =
          costs_from_making c.args.input.now c.in_ok-line.line _ c.in_ok-model.ensures
          ∙ ap (costs_of_line c.args.input.now) (sym line ∙ c.cost_line_at.ensures.told) ∙ sym (cond-false _ _ _ (le-ltb _ _ c.if-input-gt-LONGEST.false));
      within = search rules;
    }
