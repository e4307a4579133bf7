-- A series that obeys the law of whole runs prints what replaying its calls is due.
use Rattle.std.proofs.Common.{◌≡◌, ℕ, ◌+◌, ◌^◌, ◌<◌, List, [], ◌∷◌, map, vec_items, refl, ap, ◌∙◌, arith}
use Rattle.theory.specs.Endings.{Ending}
use Rattle.theory.specs.Recursion.{Case, LawfulCosts, case_of, plan}
use Rattle.theory.specs.Regeneration.{after}
use Rattle.theory.specs.Series as series
use Rattle.theory.specs.Series.{Ran, periods_read, taken, base, go_on}
use Rattle.theory.proofs.Series.{one_record}
use Rattle.lots.specs.Lots.{terms}
use Rattle.lots.specs.declared.lot.LotKind.TheVariants.{Closing}
use Rattle.feeds.specs.declared.fault.FeedFault.{FeedFault}
use Rattle.feeds.specs.Feeding.{Small}
use Rattle.planner.specs.Answers.{call_of, entry_of}
use Rattle.planner.specs.Lots.{handed}
use Rattle.planner.specs.Runs.{Obeys}
use Rattle.planner.specs.declared.calls.Call.{Call}
use Rattle.planner.specs.declared.calls.Entry.{Entry}
use Rattle.planner.specs.declared.series.Series.{Series}
use Rattle.planner.proofs.Rolled.{closing_terms_lem}
use Rattle.reporting.specs.Planning.{total_cost}
use Rattle.rolling_report.specs.Replaying.{series_lines, replay_due}
use Rattle.reporting.proofs.Fitting.{least_payable, total_handed}
use Rattle.rolling_report.specs.Totals.{total_frozen, taken_total}
use Rattle.rolling_report.proofs.Series.{frozen_cost}

calls_same : (es : List Entry) → map (λ (e : series.Entry FeedFault). e.call) (map entry_of es) ≡ map call_of (map (λ (e : Entry). e.call) es)
calls_same [] = refl
calls_same (e ∷ es) = ap (λ (ks : List series.Call). call_of e.call ∷ ks) (calls_same es)

module _ (K : ℕ → ℕ) (V : ℕ → ℕ → ℕ) (ds : List ℕ) (ending : Ending FeedFault) (calls : List Call) (s : Series) (o : Obeys (record { K = K; V = V }) (record { demands = ds; ending = ending }) calls s) (due : Ran K V ds ending (map entry_of (vec_items s.entries))) where
  abbrev es : List (series.Entry FeedFault)
  es = map entry_of (vec_items s.entries)

  abbrev c : Case
  c = case_of K V ds

  closing_is : map terms (vec_items s.closing) ≡ map (handed Closing (periods_read es)) (after (base es) (plan c (periods_read es)))
  closing_is = closing_terms_lem c (periods_read es) (base es) (vec_items s.closing) o.law.rests o.closing

  series_is : es ≡ go_on K V ds ending [] (map call_of calls)
  series_is = (one_record FeedFault K V ds ending (map call_of calls)).2 es due (calls_same (vec_items s.entries) ∙ ap (map call_of) o.made)

  -- all lots together cost a number of 64 bits
  pub series_fits : LawfulCosts K V → Small ds → frozen_cost (vec_items s.entries) + total_cost (map terms (vec_items s.closing)) < 2 ^ 64
  series_fits lawful small =
      omega (
        arith,
        ap total_cost closing_is,
        total_handed Closing (periods_read es) (after (base es) (plan c (periods_read es))),
        total_frozen (taken es),
        taken_total K V ds ending es lawful due,
        least_payable K V ds lawful small (periods_read es) o.law.limits.most,
      )

  pub series_printed : series_lines es (map terms (vec_items s.closing)) ≡ replay_due K V ds ending (map call_of calls)
  series_printed =
      ap (series_lines es) closing_is
      ∙ ap (λ (gs : List (series.Entry FeedFault)). series_lines gs (map (handed Closing (periods_read gs)) (after (base gs) (plan c (periods_read gs))))) series_is
