-- Planning a whole forecast period by period, as the printing program does.
use Rattle.std.specs.Prelude.{◌≡◌, ℕ, List, [], ◌++◌, map, Some, None, Option}
use Rattle.feeds.specs.declared.fault.FeedFault.{FeedFault}
use Rattle.feeds.specs.Forecasts.{Forecast}
use Rattle.lots.specs.Lots.{Terms}
use Rattle.lots.specs.declared.lot.LotKind.TheVariants.{Frozen, Closing}
use Rattle.theory.specs.Eager.{Outcome, eager}
use Rattle.theory.specs.Endings.{Ending}
use Rattle.theory.specs.Recursion.{Case, case_of, plan}
use Rattle.theory.specs.Regeneration.{after}
use Rattle.theory.specs.Series.{Handed, Refusal, none_proved, lot_waits, window_full, limit_reached, feed_ended, feed_faulty}
use Rattle.planner.specs.declared.refusals.ReadRefusal.{ReadRefusal}
use Rattle.planner.specs.declared.refusals.ReadRefusal.TheVariants.{LotWaits, WindowFull, LimitReached, Feed}
use Rattle.planner.specs.Lots.{handed}
use Rattle.planner.specs.Standing.{Charges}

-- a lot taken is handed out as frozen
abbrev pub frozen_terms : Handed → Terms
frozen_terms h = handed Frozen h.evidence h.lot

-- the lots of the rest of the plan, where the feed came to its end
abbrev pub closing_terms : Case → ℕ → ℕ → Refusal FeedFault → List Terms
closing_terms c t b none_proved = []
closing_terms c t b lot_waits = []
closing_terms c t b window_full = []
closing_terms c t b limit_reached = []
closing_terms c t b feed_ended = map (handed Closing t) (after b (plan c t))
closing_terms c t b (feed_faulty f) = []

-- what kept a forecast from being planned to its end
abbrev pub stop_of : Refusal FeedFault → Option ReadRefusal
stop_of none_proved = None
stop_of lot_waits = Some LotWaits
stop_of window_full = Some WindowFull
stop_of limit_reached = Some LimitReached
stop_of feed_ended = None
stop_of (feed_faulty f) = Some (Feed f)

-- all lots of a forecast: those frozen as it was read, and the closing ones if it was read to its end
abbrev pub rolled_lots : (ℕ → ℕ) → (ℕ → ℕ → ℕ) → List ℕ → Ending FeedFault → List Terms
rolled_lots K V ds ending =
    let o : Outcome FeedFault = eager K V ds ending in
    map frozen_terms o.lots ++ closing_terms (case_of K V ds) o.read o.base o.stop

-- why the forecast was not read to its end, if it was not
abbrev pub rolled_stop : (ℕ → ℕ) → (ℕ → ℕ → ℕ) → List ℕ → Ending FeedFault → Option ReadRefusal
rolled_stop K V ds ending = stop_of (eager K V ds ending).stop

-- lots and stop are those of a forecast planned at these charges
abbrev pub RolledOut : Charges → Forecast → List Terms → Option ReadRefusal → Type 0
RolledOut c all lots stop = (lots ≡ rolled_lots c.K c.V all.demands all.ending) × (stop ≡ rolled_stop c.K c.V all.demands all.ending)
