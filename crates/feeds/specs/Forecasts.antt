-- A forecast, and how records make one.
use Rattle.std.specs.Prelude.{ℕ, List, [], ◌∷◌, Some, None, Ok, Err, Option, Result}
use Rattle.theory.specs.Endings.{Ending, finished_feed, faulty_feed}
use Rattle.feeds.specs.declared.fault.RecordFault.{RecordFault}
use Rattle.feeds.specs.declared.fault.FeedFault.{FeedFault}

-- a forecast: the demands still to come, and how they end
pub record Forecast : Type 0 where
  pub demands : List ℕ
  pub ending : Ending FeedFault

-- the forecast that begins with what was read of a record: a fault, the end, or a record with its demand, which `rest` follows
abbrev pub goes_further : {R : Type 0} → (R → ℕ) → Result (Option R) RecordFault → (R → Forecast) → Forecast
goes_further demand (Err f) rest = record { demands = []; ending = faulty_feed (record { fault = f; layers = 0 }) }
goes_further demand (Ok None) rest = record { demands = []; ending = finished_feed }
goes_further demand (Ok (Some r)) rest = record { demands = demand r ∷ (rest r).demands; ending = (rest r).ending }
