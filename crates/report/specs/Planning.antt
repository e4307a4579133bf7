-- The plan of a whole forecast at once.
use Rattle.std.specs.Prelude.{ℕ, cond, List, [], map, length, Some, None, nat_le}
use Rattle.theory.specs.Endings.{Ending, finished_feed, faulty_feed}
use Rattle.theory.specs.Recursion.{plan}
use Rattle.lots.specs.Lots.{Terms}
use Rattle.lots.specs.declared.lot.LotKind.TheVariants.{Closing}
use Rattle.feeds.specs.declared.fault.FeedFault.{FeedFault}
use Rattle.feeds.specs.Forecasts.{Forecast}
use Rattle.planner.specs.Lots.{handed}
use Rattle.planner.specs.Standing.{Charges, case_at}
use Rattle.planner.specs.declared.refusals.ReadRefusal.{ReadRefusal}
use Rattle.planner.specs.declared.refusals.ReadRefusal.TheVariants.{WindowFull, Feed}
use Rattle.reporting.specs.Planning.{Plan}

-- no lot at all, and why
abbrev pub stopped_at : ReadRefusal → Plan
stopped_at r = record { lots = []; stop = Some r }

-- all lots of demands that end as they should; a fault behind them is refused
abbrev pub unless_faulty : Ending FeedFault → List Terms → Plan
unless_faulty finished_feed ys = record { lots = ys; stop = None }
unless_faulty (faulty_feed f) ys = stopped_at (Feed f)

-- the plan of all demands as closing lots, but 256 demands fill the window before their ending is seen
abbrev pub plan_due : Charges → Forecast → Plan
plan_due c all =
    let n : ℕ = length all.demands in
    cond (nat_le 256 n) (stopped_at WindowFull) (unless_faulty all.ending (map (handed Closing n) (plan (case_at c all) n)))
