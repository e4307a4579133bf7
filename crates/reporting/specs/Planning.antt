-- The plan of an input: its first line names costs, and the bytes behind it are demands.
use Rattle.std.specs.Prelude.{ℕ, ◌^◌, ◌<◌, ◌≤◌, List, map, length, sum_by, Ok, Err, vec_items, Option, Result}
use Rattle.lots.specs.Lots.{Terms, terms}
use Rattle.costs.specs.Constant.{constant_price}
use Rattle.feeds.specs.Forecasts.{Forecast}
use Rattle.planner.specs.Standing.{Charges}
use Rattle.planner.specs.declared.forecast.Planned.{Planned}
use Rattle.planner.specs.declared.refusals.ReadRefusal.{ReadRefusal}
use Rattle.reporting.specs.declared.refusal.Refusal.{Refusal}
use Rattle.reporting.specs.Costing.{Priced, costs_due}

-- the lots of a plan in order, and why the demands were not read to their end, if they were not
pub record Plan : Type 0 where
  pub lots : List Terms
  pub stop : Option ReadRefusal

-- the charges at the same costs in every period
abbrev pub charged : Priced → Charges
charged c = record { K = λ _. c.setup; V = constant_price c.unit c.holding }

-- the plan of an input that may name no costs; `due` says how forecasts are planned, and `reading` which forecast bytes are
abbrev pub plan_if : (Charges → Forecast → Plan) → (List ℕ → Forecast) → Result Priced Refusal → Result Plan Refusal
plan_if due reading (Ok c) = Ok (due (charged c) (reading c.rest))
plan_if due reading (Err r) = Err r

-- the plan of an input
abbrev pub input_plan : (Charges → Forecast → Plan) → (List ℕ → Forecast) → List ℕ → Result Plan Refusal
input_plan due reading bs = plan_if due reading (costs_due bs)

-- a plan by the terms of its lots
abbrev pub plan_told : Planned → Plan
plan_told p = record { lots = map terms (vec_items p.lots); stop = p.stop }

-- what the lots cost together
abbrev pub total_cost : List Terms → ℕ
total_cost ys = sum_by (λ y. y.cost) ys

-- the total is a number of 64 bits, and a file holds the lots
abbrev pub Fits : Plan → Type 0
Fits p = (total_cost p.lots < 2 ^ 64) × (length p.lots ≤ 10000)
