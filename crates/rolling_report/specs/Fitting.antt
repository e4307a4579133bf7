-- The plan of every forecast fits: together its lots cost the least cost of the periods read, and each of them ends a period of its own.
use Rattle.std.proofs.Common.{◌≡◌, ℕ, ◌+◌, ◌^◌, ◌<◌, ◌≤◌, List, ◌++◌, map, length, ap, ◌∙◌, arith, length-append}
use lib.ListN.{length-map}
use Rattle.std.proofs.lemmas.List.Sums.{sum_by-append}
use Rattle.theory.specs.Eager.{Outcome, eager}
use Rattle.theory.specs.Endings.{Ending}
use Rattle.theory.specs.Recursion.{Case, LawfulCosts, case_of, least, plan}
use Rattle.theory.specs.Regeneration.{after}
use Rattle.theory.specs.Series.{Handed, Refusal, none_proved, lot_waits, window_full, limit_reached, feed_ended, feed_faulty, Entry, Ran, periods_read, taken, lots, base}
use Rattle.theory.specs.Splittings.{total}
use Rattle.theory.proofs.Eagerly.{eager_run}
use Rattle.theory.proofs.Kept.{within_limits}
use Rattle.theory.proofs.Runs.{begins_plan}
use Rattle.lots.specs.Lots.{Terms}
use Rattle.lots.specs.declared.lot.LotKind.TheVariants.{Closing}
use Rattle.feeds.specs.declared.fault.FeedFault.{FeedFault}
use Rattle.feeds.specs.Feeding.{Small}
use Rattle.feeds.specs.Forecasts.{Forecast}
use Rattle.planner.specs.Lots.{handed}
use Rattle.planner.specs.Rolling.{frozen_terms, closing_terms, rolled_lots}
use Rattle.planner.specs.Standing.{Charges}
use Rattle.reporting.specs.Planning.{total_cost, Fits}
use Rattle.reporting.proofs.Fitting.{least_payable, total_handed, plan_few}
use Rattle.rolling_report.specs.Planning.{plan_due}
use Rattle.rolling_report.specs.Totals.{total_frozen, taken_total}

-- what is left of the plan at a stop is its rest or nothing
closing_part : (c : Case) (t b : ℕ) (r : Refusal FeedFault) →
    (total_cost (closing_terms c t b r) ≤ total (after b (plan c t))) × (length (closing_terms c t b r) ≤ length (after b (plan c t)))
closing_part c t b none_proved = (omega arith, omega arith)
closing_part c t b lot_waits = (omega arith, omega arith)
closing_part c t b window_full = (omega arith, omega arith)
closing_part c t b limit_reached = (omega arith, omega arith)
closing_part c t b feed_ended = (omega (arith, total_handed Closing t (after b (plan c t))), omega (arith, length-map (after b (plan c t)) (handed Closing t)))
closing_part c t b (feed_faulty f) = (omega arith, omega arith)

module _ (K : ℕ → ℕ) (V : ℕ → ℕ → ℕ) (ds : List ℕ) (ending : Ending FeedFault) (lawful : LawfulCosts K V) where
  abbrev c : Case
  c = case_of K V ds

  -- the lots of a forecast, by the series that eager planning is
  rolled_by : (es : List (Entry FeedFault)) → Ran K V ds ending es → (r : Refusal FeedFault) →
      let ys : List Terms = map frozen_terms (taken es) ++ closing_terms c (periods_read es) (base es) r in
      (total_cost ys ≤ least c (periods_read es)) × (length ys ≤ periods_read es)
  rolled_by es ran r =
      let t : ℕ = periods_read es in
      let part = closing_part c t (base es) r in
      let frozen : List Terms = map frozen_terms (taken es) in
      let rest : List Terms = closing_terms c t (base es) r in
      let whole : length (plan c t) ≡ length (lots (taken es)) + length (after (base es) (plan c t)) =
      ap length (begins_plan K V ds ending es lawful ran) ∙ length-append (lots (taken es)) (after (base es) (plan c t)) in (
        omega (arith, part.0, sum_by-append (λ (z : Terms). z.cost) frozen rest, total_frozen (taken es), taken_total K V ds ending es lawful ran),
        omega (
          arith,
          part.1,
          length-append frozen rest,
          length-map (taken es) frozen_terms,
          length-map (taken es) (λ (h : Handed). h.lot),
          whole,
          plan_few c t,
        ),
      )

  rolled_fits : Small ds → (total_cost (rolled_lots K V ds ending) < 2 ^ 64) × (length (rolled_lots K V ds ending) ≤ 10000)
  rolled_fits small =
      let o : Outcome FeedFault = eager K V ds ending in
      let run = eager_run FeedFault K V ds ending in
      let t : ℕ = periods_read run.es in
      let few : t ≤ 10000 = (within_limits K V ds ending run.es run.ran).most in
      let by = rolled_by run.es run.ran o.stop in
      let same : map frozen_terms (taken run.es) ++ closing_terms c t (base run.es) o.stop ≡ rolled_lots K V ds ending =
      ap (λ (hs : List Handed). map frozen_terms hs ++ closing_terms c t (base run.es) o.stop) run.took
      ∙ ap (λ n. map frozen_terms o.lots ++ closing_terms c n (base run.es) o.stop) run.reads
      ∙ ap (λ n. map frozen_terms o.lots ++ closing_terms c o.read n o.stop) run.ends in (
        omega (arith, by.0, least_payable K V ds lawful small t few, ap total_cost same),
        omega (arith, by.1, few, ap (λ (xs : List Terms). length xs) same),
      )

pub plan_fits : (c : Charges) (all : Forecast) → LawfulCosts c.K c.V → Small all.demands → Fits (plan_due c all)
plan_fits c all lawful small = rolled_fits c.K c.V all.demands all.ending lawful small
