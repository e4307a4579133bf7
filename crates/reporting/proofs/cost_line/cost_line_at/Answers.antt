use Rattle.std.proofs.Common.{drop, ap, ◌∙◌}
use Rattle.std.proofs.lemmas.List.{take_rest}
use Rattle.lots.specs.Decimals.{field_at}
use Rattle.reporting.specs.CostLines.{line_of, line_behind, line_after, cost_line_of}
use Rattle.reporting.proofs.CostLines.{cost_line_told}
use Rattle.reporting.proofs.cost_line.cost_line_at.Goals as goal

pub returns-in_err-setup : goal.returns-in_err-setup
unfolding cost_line_of
returns-in_err-setup c =
    cost_line_told _ _ (c.from_residual.ensures ∙ ap (line_after c.args.text.now) c.in_err-setup.ensures.told)

pub returns-in_err-unit : goal.returns-in_err-unit
unfolding cost_line_of
returns-in_err-unit c =
    let bs = c.args.text.now in
    let k = c.in_ok-setup.field-0 in
    let second = c.in_err-unit.ensures.told ∙ ap (field_at 10 44) (take_rest bs k.length) in
    cost_line_told _ _
    (c.from_residual-in_err-unit.ensures ∙ ap (line_behind k (drop k.length bs)) second ∙ ap (line_after bs) c.in_ok-setup.ensures.told)

pub returns-in_err-holding : goal.returns-in_err-holding
unfolding cost_line_of
returns-in_err-holding c =
    let bs = c.args.text.now in
    let k = c.in_ok-setup.field-0 in
    let u = c.in_ok-unit.field-0 in
    let rest = take_rest bs k.length in
    let second = c.in_ok-unit.ensures.told ∙ ap (field_at 10 44) rest in
    let third = c.in_err-holding.ensures.told ∙ ap (field_at 10 10) (take_rest _ u.length ∙ ap (drop u.length) rest) in
    cost_line_told _ _
    (c.from_residual-in_err-holding.ensures ∙ ap (line_of k u) third ∙ ap (line_behind k (drop k.length bs)) second
    ∙ ap (line_after bs) c.in_ok-setup.ensures.told)

pub returns : goal.returns
unfolding cost_line_of
returns c =
    let bs = c.args.text.now in
    let k = c.in_ok-setup.field-0 in
    let u = c.in_ok-unit.field-0 in
    let rest = take_rest bs k.length in
    let second = c.in_ok-unit.ensures.told ∙ ap (field_at 10 44) rest in
    let third = c.in_ok-holding.ensures.told ∙ ap (field_at 10 10) (take_rest _ u.length ∙ ap (drop u.length) rest) in
    cost_line_told _ _
    (ap (line_of k u) third ∙ ap (line_behind k (drop k.length bs)) second ∙ ap (line_after bs) c.in_ok-setup.ensures.told)
