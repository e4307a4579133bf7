use Rattle.std.proofs.Common.{◌≡◌, ℕ, suc, ◌+◌, ◌-◌, ◌*◌, length, get_or, refl, sym, ◌∙◌, ap₂, arith}
use Rattle.std.proofs.lemmas.List.{get_or-map}
use Rattle.planner.specs.declared.rows.row.Period.{Period}
use Rattle.planner.specs.Describing.{options_of}
use Rattle.planner.proofs.Choosing.{walk_cheaper, walk_dearer}
use Rattle.planner.proofs.rows.options.raise.Given as given
use Rattle.planner.proofs.rows.options.raise.Goals as goal
use Rattle.planner.proofs.rows.options.raise.Goals.{After-made_in}

-- a period that is none
abbrev nought : Period
nought = record { row = record { demanded = 0; least = 0; last = 0 }; option = 0 }

-- the option that is raised next is as it was
was : (g : given.Over) (c : After-made_in g) → (get_or c.loop-place.periods (c.loop-place.place - 1) nought).option ≡ get_or (options_of c.args.periods.now) (c.loop-place.place - 1) 0
was g c =
    let p : ℕ = c.loop-place.place - 1 in
    sym (get_or-map (λ (q : Period). q.option) c.loop-place.periods p nought 0 (omega (arith, c.loop-place.invariant.1.long)))
    ∙ c.loop-place.invariant.1.kept p (omega arith)

-- and is raised from that
raises : (g : given.Over) (c : After-made_in g) →
    (get_or c.loop-place.periods (c.loop-place.place - 1) nought).option + c.made_in.result
    ≡ get_or (options_of c.args.periods.now) (c.loop-place.place - 1) 0
    + c.args.asked.now.demand * g.M.CostModel.V c.args.asked.now.model.now (suc (c.args.base + (c.loop-place.place - 1))) (suc (c.args.base + length c.args.periods.now))
raises g c =
    let p : ℕ = c.loop-place.place - 1 in
    let made : c.args.base + p + 1 ≡ suc (c.args.base + p) = omega arith in
    ap₂ ◌+◌ (was g c) (c.made_in.ensures.is ∙ ap₂ (λ j i. c.args.asked.now.demand * g.M.CostModel.V c.args.asked.now.model.now j i) made c.requires.next)

pub overflow_add-cost : goal.overflow_add-cost
overflow_add-cost g c =
    omega (arith, was g (goal.at.overflow_add-cost g c).After-made_in, c.requires.fits (c.loop-place.place - 1) (omega arith) (omega arith))

pub loop-place-preserved-then-cost-best : goal.loop-place-preserved-then-cost-best
loop-place-preserved-then-cost-best g c =
    (omega arith, walk_cheaper _ _ _ _ _ _ _ _ _ nought (omega arith) (raises g (goal.at.loop-place-preserved-then-cost-best g c).After-made_in) refl c.loop-place.invariant.1 c.if-cost-best.true)

pub loop-place-preserved : goal.loop-place-preserved
loop-place-preserved g c =
    (omega arith, walk_dearer _ _ _ _ _ _ _ _ _ nought (omega arith) (raises g (goal.at.loop-place-preserved g c).After-made_in) refl c.loop-place.invariant.1 c.if-cost-best.false)
