use Rattle.std.proofs.Common.{◌≤◌, Ok, sym, refl, ap, ◌∙◌, arith}
use Rattle.std.specs.Option.{option_map}
use Rattle.lots.specs.declared.lot.LotKind.TheVariants.{Closing}
use Rattle.theory.specs.Recursion.{plan}
use Rattle.theory.specs.Regeneration.{next}
use Rattle.planner.specs.Lots.{span_of, handed}
use Rattle.planner.specs.Describing.{reading}
use Rattle.planner.specs.Resting.{rest_of}
use Rattle.planner.specs.Windows.{window}
use Rattle.planner.proofs.Backward.{forward, next_lot, spans_base}
use Rattle.planner.proofs.closed.Closed.rest.Given as given
use Rattle.planner.proofs.closed.Closed.rest.Goals as goal
use Rattle.planner.proofs.closed.Closed.rest.Goals.{In-Some}

-- the lot ends after the base
ends_after : (g : given.Over) (c : In-Some g) → c.self.inside.rows.base ≤ c.in-Some.span.through
ends_after g c =
    let r = c.self.inside.rows in
    let sp = c.in-Some.ensures.spans in
    omega (arith, forward (window r) r.sound _ (spans_base (window r) _ _ c.self.inside.onward sp), sp.later, c.self.inside.onward)

pub invariant_of-self-inside : goal.invariant_of-self-inside
invariant_of-self-inside g c = (ends_after g (goal.at.invariant_of-self-inside g c).In-Some, tt)

pub returns-in_default-clause-left : goal.returns-in_default-clause-left
returns-in_default-clause-left g c = rw (← c.self.view_is) (c.self.inside.onward, refl)

pub returns-clause-left : goal.returns-clause-left
returns-clause-left g c = rw (← c.self.view_is, c.lot.ensures.through) (_, refl)

pub returns-clause-due : goal.returns-clause-due
returns-clause-due g c =
    let r = c.self.inside.rows in
    rw (← c.self.view_is)
    (λ d h.
    let found = c.in-Some.ensures.means d h ∙ ap (λ n. option_map span_of (next c.self.inside.after (plan d n))) c.read.ensures in
    let y = next_lot d _ _ _ found in
    ap Ok (c.lot.ensures.means d h ∙ ap (handed Closing (reading (window r))) (sym y.2)) ∙ sym (ap (rest_of (reading (window r))) y.1))

pub returns-clause-onward : goal.returns-clause-onward
returns-clause-onward g c =
    let r = c.self.inside.rows in
    let sp = c.in-Some.ensures.spans in
    let ahead = forward (window r) r.sound _ (spans_base (window r) _ _ c.self.inside.onward sp) in
    rw (← c.self.view_is) (omega (arith, ahead, sp.later, c.lot.ensures.through), omega (arith, sp.read, c.lot.ensures.through))
