use Rattle.std.proofs.Common.{◌≡◌, ℕ, ◌-◌, Some, sym, refl, ap, ◌∙◌, arith, rules}
use borrow.Author.Tests.{tests}
use Rattle.std.specs.Option.{option_map}
use Rattle.std.proofs.lemmas.Iterator.{cases_from_all, YieldsList-from_range}
use Rattle.theory.specs.Recursion.{Case, last, plan}
use Rattle.theory.specs.Regeneration.{next}
use Rattle.planner.specs.Describing.{reading, Describes}
use Rattle.planner.specs.Lots.{span_of}
use Rattle.planner.specs.Windows.{window}
use Rattle.planner.proofs.Backward.{last_is}
use Rattle.planner.proofs.Proven.{unproved_idle, unproved_none, proved_if}
use Rattle.planner.proofs.rows.Rows.proved_span.Goals as goal
use Rattle.planner.proofs.rows.Rows.proved_span.Goals.{After-at-last}

-- the newest row tells the last setup of all periods read
told : (c : After-at-last) (d : Case) → Describes d (window c.args.self.now) → c.at-last.result.last ≡ last d (reading (window c.args.self.now))
told c d h =
    let w = window c.args.self.now in
    ap (λ r. r.last) c.at-last.ensures ∙ last_is d w h c.read-read.result (omega arith) (omega arith) ∙ ap (last d) c.read-read.ensures

pub returns-then-last-eq0 : goal.returns-then-last-eq0
returns-then-last-eq0 c d h = unproved_idle d _ _ (sym (told (goal.at.returns-then-last-eq0 c).After-at-last d h) ∙ c.if-last-eq0.true)

pub returns-in_err-span : goal.returns-in_err-span
returns-in_err-span c d h =
    let none = c.in_err-span.ensures.means d h ∙ ap (λ n. option_map span_of (next c.args.self.now.base (plan d n))) c.read-read.ensures in
    c.from_residual.ensures ∙ unproved_none d _ _ none

pub returns : goal.returns
returns c d h =
    let b : ℕ = c.args.self.now.base in
    let t : ℕ = reading (window c.args.self.now) in
    let l : ℕ = c.at-last.result.last in
    let whole = c.in_ok-span.ensures.means d h ∙ ap (λ n. option_map span_of (next b (plan d n))) c.read-read.ensures in
    c.then_some.ensures
    ∙ proved_if d b t l _ _ (told (goal.at.returns c).After-at-last d h) (omega (arith, c.if-last-eq0.false)) whole
    (cases_from_all _ _ _ (λ n. option_map span_of (next b (plan d n)) ≡ Some c.in_ok-span.span)
    (λ n. option_map span_of (next b (plan d n)) ≡ Some c.in_ok-span.span → ⊥) c.all.ensures.ran
    (YieldsList-from_range (l - 1) c.read-read.result (t - (l - 1)) refl (omega arith))
    (λ x q k. search (rules, tests, h))
    (λ x q k. search (rules, tests, h)))
