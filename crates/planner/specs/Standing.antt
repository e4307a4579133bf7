-- Where a planner stands, and what it goes by.
use Rattle.std.specs.Prelude.{ℕ, ◌≤◌, Option}
use Rattle.costs.specs.declared.model.CostModel as costs
use Rattle.feeds.specs.declared.feed.Feed as feeds
use Rattle.feeds.specs.Forecasts.{Forecast}
use Rattle.theory.specs.Recursion.{Case, case_of}
use Rattle.planner.specs.declared.rows.Rows.{Rows}
use Rattle.planner.specs.declared.rows.row.Span.{Span}
use Rattle.planner.specs.Proving.{TellsProved}
use Rattle.planner.specs.Windows.{window}

-- what a planner is to its callers: its feed, its cost model, its rows of the periods read, and the span of the lot that is proved now, if any, which the rows prove
pub record Standing (F M : Type 0) : Type 0 where
  pub feed : F
  pub model : M
  pub rows : Rows
  pub proved : Option Span
  pub right : TellsProved (window rows) proved

-- what is left when a planner is closed: feed, model and rows, and the end of the last lot handed out, which is no earlier than the base
pub record Leaving (F M : Type 0) : Type 0 where
  pub feed : F
  pub model : M
  pub rows : Rows
  pub after : ℕ
  pub onward : rows.base ≤ after

-- what is planned at: the setup charges K and the prices V
pub record Charges : Type 0 where
  pub K : ℕ → ℕ
  pub V : ℕ → ℕ → ℕ

-- the charges of a cost model
abbrev pub charges : {M : Type 0} → costs.Ghosts M → M → Charges
charges m model = record { K = m.K model; V = m.V model }

-- the forecast that a feed still hands out
abbrev pub forecast : {F : Type 0} → feeds.Ghosts F → F → Forecast
forecast f feed = record { demands = f.demands feed; ending = f.ending feed }

-- the case of a forecast at these charges
abbrev pub case_at : Charges → Forecast → Case
case_at c all = case_of c.K c.V all.demands
