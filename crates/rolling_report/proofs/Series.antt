-- Printing a series, and adding up what its lots cost.
use Rattle.std.proofs.Common.{◌≡◌, ℕ, ◌+◌, List, [], ◌∷◌, ◌++◌, map, sum_by, refl, ap, ◌∙◌, sym, arith}
use Rattle.std.proofs.lemmas.List.Sums.{sum_by-cons}
use Rattle.feeds.specs.declared.fault.FeedFault.{FeedFault}
use Rattle.theory.specs.Series as series
use Rattle.theory.specs.Series.{given_lot, accepted_read, refused_call, given_by, taken}
use Rattle.lots.specs.Lots.{Terms}
use Rattle.planner.specs.Answers.{answer_of, entry_of}
use Rattle.planner.specs.Rolling.{frozen_terms}
use Rattle.planner.specs.declared.calls.Entry.{Entry}
use Rattle.reporting.specs.Planning.{total_cost}
use Rattle.rolling_report.specs.Replaying.{answer_cost}

-- what the lots among entries cost
abbrev pub frozen_cost : List Entry → ℕ
frozen_cost es = total_cost (map frozen_terms (taken (map entry_of es)))

-- the lots taken cost what the answers' lots do
pub frozen_by_answers : (es : List Entry) → sum_by (λ (e : Entry). answer_cost (answer_of e.answer)) es ≡ frozen_cost es
unfolding taken given_by
frozen_by_answers [] = refl
frozen_by_answers (e ∷ es) = sum_by-cons (λ (x : Entry). answer_cost (answer_of x.answer)) e es ∙ ap (λ n. answer_cost (answer_of e.answer) + n) (frozen_by_answers es) ∙ go (answer_of e.answer)
  where
    go : (a : series.Answer FeedFault) →
        answer_cost a + frozen_cost es ≡ total_cost (map frozen_terms (given_by a ++ taken (map entry_of es)))
    go (given_lot h) = sym (sum_by-cons (λ (z : Terms). z.cost) (frozen_terms h) (map frozen_terms (taken (map entry_of es))))
    go (accepted_read proved) = omega arith
    go (refused_call r) = omega arith
