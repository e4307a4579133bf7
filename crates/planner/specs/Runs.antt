-- A series of calls made from the first to the last, and then emptied.
use Rattle.std.specs.Prelude.{◌≡◌, List, map, vec_items}
use Rattle.std.specs.List.{AllByRecursion}
use Rattle.feeds.specs.Forecasts.{Forecast}
use Rattle.lots.specs.declared.lot.LotKind.TheVariants.{Closing}
use Rattle.theory.specs.Series.{Ran}
use Rattle.theory.specs.Runs.{WholeRun}
use Rattle.planner.specs.declared.calls.Call.{Call}
use Rattle.planner.specs.declared.calls.Entry.{Entry}
use Rattle.planner.specs.declared.series.Series.{Series}
use Rattle.planner.specs.Answers.{entry_of, handed_lot, HandsOutFrozen}
use Rattle.planner.specs.Standing.{Charges}

-- the calls were made in order, and their answers and the closing lots obey the law of whole runs; lots taken are frozen, the others closing
pub record Obeys (c : Charges) (all : Forecast) (calls : List Call) (s : Series) : Type 0 where
  pub made : map (λ e. e.call) (vec_items s.entries) ≡ calls
  pub law : WholeRun c.K c.V all.demands all.ending (map entry_of (vec_items s.entries)) (map handed_lot (vec_items s.closing))
  pub frozen : AllByRecursion (λ e. HandsOutFrozen e.answer) (vec_items s.entries)
  pub closing : AllByRecursion (λ y. y.kind ≡ Closing) (vec_items s.closing)

-- each answer of the series was the one due after what came before
abbrev pub RanAll : Charges → Forecast → List Entry → Type 0
RanAll c all entries = Ran c.K c.V all.demands all.ending (map entry_of entries)
