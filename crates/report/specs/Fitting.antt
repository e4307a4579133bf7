-- The plan of a whole forecast fits: it has fewer than 256 lots, and its total is the least cost.
use Rattle.std.proofs.Common.{ℕ, leb, List, None, map, length, arith}
use lib.ListN.{length-map}
use Rattle.std.proofs.lemmas.Bool.{cond_both, leb-false}
use Rattle.theory.specs.Endings.{Ending, finished_feed, faulty_feed}
use Rattle.theory.specs.Recursion.{LawfulCosts, plan}
use Rattle.theory.proofs.Plans.{plan_total}
use Rattle.lots.specs.Lots.{Terms}
use Rattle.lots.specs.declared.lot.LotKind.TheVariants.{Closing}
use Rattle.feeds.specs.declared.fault.FeedFault.{FeedFault}
use Rattle.feeds.specs.Feeding.{Small}
use Rattle.feeds.specs.Forecasts.{Forecast}
use Rattle.planner.specs.Lots.{handed}
use Rattle.planner.specs.Standing.{Charges, case_at}
use Rattle.planner.specs.declared.refusals.ReadRefusal.{ReadRefusal}
use Rattle.planner.specs.declared.refusals.ReadRefusal.TheVariants.{WindowFull, Feed}
use Rattle.reporting.specs.Planning.{Fits}
use Rattle.reporting.proofs.Fitting.{least_payable, total_handed, plan_few}
use Rattle.report.specs.Planning.{stopped_at, unless_faulty, plan_due}

none_fit : (r : ReadRefusal) → Fits (stopped_at r)
none_fit r = (omega arith, omega arith)

ending_fits : (e : Ending FeedFault) (ys : List Terms) → Fits (record { lots = ys; stop = None }) → Fits (unless_faulty e ys)
ending_fits finished_feed ys fits = fits
ending_fits (faulty_feed f) ys fits = none_fit (Feed f)

pub plan_fits : (c : Charges) (all : Forecast) → LawfulCosts c.K c.V → Small all.demands → Fits (plan_due c all)
plan_fits c all lawful small =
    let n : ℕ = length all.demands in
    cond_both (leb 256 n) _ _ Fits (λ _. none_fit WindowFull)
    (λ few. ending_fits all.ending (map (handed Closing n) (plan (case_at c all) n)) (
      omega (arith, total_handed Closing n (plan (case_at c all) n), plan_total (case_at c all) n, least_payable c.K c.V all.demands lawful small n (omega (arith, leb-false 256 n few))),
      omega (arith, leb-false 256 n few, length-map (plan (case_at c all) n) (handed Closing n), plan_few (case_at c all) n),
    ))
