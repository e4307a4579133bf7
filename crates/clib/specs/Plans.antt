-- The plan of a forecast and its lot file.
use Rattle.std.specs.Prelude.{ℕ, if◌then◌else◌, List, map, length, Ok, Err, vec_items, Result, Vec, nat_le}
use Rattle.std.specs.declared.alloc.Global.{Global}
use Rattle.lots.specs.declared.lot.Lot.{Lot}
use Rattle.lots.specs.Lots.{Terms, terms}
use Rattle.costs.specs.declared.line.CostLine.{CostLine}
use Rattle.costs.specs.Dated.{dated_setup, dated_price}
use Rattle.feeds.specs.Forecasts.{Forecast}
use Rattle.lotfile.specs.declared.fault.WriteFault.TheVariants.{TooMany}
use Rattle.lotfile.specs.LotWords.{file_bytes}
use Rattle.planner.specs.Rolling.{rolled_lots, rolled_stop}
use Rattle.clib.specs.declared.error.Refusal.{Refusal}
use Rattle.clib.specs.declared.error.Refusal.TheVariants.{Reading, Writing}
use Rattle.clib.specs.Costs.{costs_due}
use Rattle.clib.specs.Layers.{through}
use Rattle.clib.specs.Numbers.{numbers_due}
use Rattle.clib.specs.Outcomes.{and_then, unless}

-- the terms of lots
abbrev pub terms_of : Vec Lot Global → List Terms
terms_of v = map terms (vec_items v)

-- all lots of a forecast that is read to its end, at the costs of these lines, each frozen as soon as it is proved, and the closing ones behind them
abbrev pub plan_due : List CostLine → Forecast → Result (List Terms) Refusal
plan_due ls f =
    unless (rolled_stop (dated_setup ls) (dated_price ls) f.demands f.ending) Reading (rolled_lots (dated_setup ls) (dated_price ls) f.demands f.ending)

-- the lot file of at most 10,000 lots
abbrev pub filed : List Terms → Result (List ℕ) Refusal
filed ys = if nat_le (length ys) 10000 then Ok (file_bytes ys) else Err (Writing TooMany)

-- the lots of a forecast through up to three layers of netting
abbrev pub lots_due : List CostLine → List ℕ → Forecast → Result (List Terms) Refusal
lots_due ls netting f = and_then (through 3 netting f) (plan_due ls)

-- the lot file due for the bytes of costs and netting, and a forecast; the first of these that is refused is told
unfoldable pub file_due : List ℕ → List ℕ → Forecast → Result (List ℕ) Refusal
file_due costs netting f = and_then (costs_due costs) (λ ls. and_then (numbers_due netting) (λ ns. and_then (lots_due ls ns f) filed))
