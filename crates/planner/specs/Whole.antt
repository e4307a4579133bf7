-- Planning a whole forecast at once.
use Rattle.std.specs.Prelude.{◌≡◌, ℕ, cond, ◌⊎◌, List, map, length, Ok, Err, vec_items, Result, Vec, nat_le}
use Rattle.std.specs.declared.alloc.Global.{Global}
use Rattle.feeds.specs.declared.fault.FeedFault.{FeedFault}
use Rattle.feeds.specs.Forecasts.{Forecast}
use Rattle.lots.specs.Lots.{Terms, terms}
use Rattle.lots.specs.declared.lot.Lot.{Lot}
use Rattle.lots.specs.declared.lot.LotKind.TheVariants.{Closing}
use Rattle.theory.specs.Endings.{Ending, finished_feed, faulty_feed}
use Rattle.theory.specs.Recursion.{plan}
use Rattle.planner.specs.declared.refusal.PlanRefusal.{PlanRefusal}
use Rattle.planner.specs.declared.refusal.PlanRefusal.TheVariants.{WindowFull, Feed, Memory}
use Rattle.planner.specs.Lots.{handed}
use Rattle.planner.specs.Standing.{Charges, case_at}

-- what is planned of a forecast that is read to its end: all of it, unless the end is a fault
abbrev pub read_out : Ending FeedFault → List Terms → Result (List Terms) PlanRefusal
read_out finished_feed lots = Ok lots
read_out (faulty_feed f) lots = Err (Feed f)

-- the plan of all demands as closing lots; the window is full before the end of 256 demands or more is seen
abbrev pub whole_plan : Charges → Forecast → Result (List Terms) PlanRefusal
whole_plan c all =
    let n : ℕ = length all.demands in
    cond (nat_le 256 n) (Err WindowFull) (read_out all.ending (map (handed Closing n) (plan (case_at c all) n)))

-- what came of planning: as it should, or memory was wanting
abbrev pub PlannedAs : Result (List Terms) PlanRefusal → Result (Vec Lot Global) PlanRefusal → Type 0
PlannedAs due (Ok lots) = Ok (map terms (vec_items lots)) ≡ due
PlannedAs due (Err e) = (e ≡ Memory) ⊎ (Err e ≡ due)
