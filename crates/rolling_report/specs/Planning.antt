-- The plan of a forecast where each lot is frozen as soon as it is proved.
use Rattle.feeds.specs.Forecasts.{Forecast}
use Rattle.planner.specs.Rolling.{rolled_lots, rolled_stop}
use Rattle.planner.specs.Standing.{Charges}
use Rattle.reporting.specs.Planning.{Plan}

-- the lots that planning period by period hands out, and what stopped it
abbrev pub plan_due : Charges → Forecast → Plan
plan_due c all = record { lots = rolled_lots c.K c.V all.demands all.ending; stop = rolled_stop c.K c.V all.demands all.ending }
