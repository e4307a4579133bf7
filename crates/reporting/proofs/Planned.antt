-- From the plan of a feed to the plan of the input that the feed was made of.
use Rattle.std.proofs.Common.{◌≡◌, ℕ, List, Ok, Result, sym, subst, ap, ◌∙◌}
use Rattle.theory.specs.Recursion.{LawfulCosts}
use Rattle.feeds.specs.Feeding.{Small}
use Rattle.feeds.specs.Forecasts.{Forecast}
use Rattle.planner.specs.Standing.{Charges}
use Rattle.reporting.specs.declared.refusal.Refusal.{Refusal}
use Rattle.reporting.specs.Costing.{Priced, costs_due}
use Rattle.reporting.specs.Planning.{Plan, charged, plan_if, input_plan, Fits}

pub planned_lem : (due : Charges → Forecast → Plan) (reading : List ℕ → Forecast) (bs : List ℕ) (c : Priced) (p : Plan) (all : Forecast) →
    ◌≡◌ {A = Result Priced Refusal} (Ok c) (costs_due bs) → all ≡ reading c.rest → p ≡ due (charged c) all →
    ◌≡◌ {A = Result Plan Refusal} (Ok p) (input_plan due reading bs)
planned_lem due reading bs c p all priced read planned = ap Ok (planned ∙ ap (due (charged c)) read) ∙ ap (plan_if due reading) priced

-- a plan that is the one due of small demands at lawful charges fits, if every such plan does
pub planned_fits : (due : Charges → Forecast → Plan) → ((c : Charges) (all : Forecast) → LawfulCosts c.K c.V → Small all.demands → Fits (due c all)) →
    (c : Charges) (all : Forecast) (p : Plan) → LawfulCosts c.K c.V → Small all.demands → p ≡ due c all → Fits p
planned_fits due fits c all p lawful small planned = subst Fits (sym planned) (fits c all lawful small)
