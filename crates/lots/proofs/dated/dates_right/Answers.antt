use Rattle.std.proofs.Common.{ltb, rules, tests}
use Rattle.std.proofs.lemmas.List.Sorted.{answers_always}
use Rattle.lots.proofs.Lines.{dates_sorted}
use Rattle.lots.proofs.dated.dates_right.Goals as goal

pub returns-then-is_none_or : goal.returns-then-is_none_or
returns-then-is_none_or g c =
    let date = g.L.DatedLine.dated in
    let rises = c.is_sorted_by.ensures.cases (λ x y. ltb (date x) (date y)) (answers_always _ _ _ (λ f a r f' k. search (rules, tests))) in
    dates_sorted date c.args.first c.args.lines.now c.is_sorted_by.result (search rules) rises
