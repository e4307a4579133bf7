-- The forecast that a text is: lines of a period and its demand, then the line `end`.
use Rattle.std.specs.Prelude.{ℕ, zero, suc, ◌+◌, Bool, cond, ◌&&◌, List, [], length, drop, Some, None, Ok, Err, Option, Result, ◌==◌, nat_le, slice_index}
use Rattle.lots.specs.declared.decimal.Numeral.{Numeral}
use Rattle.lots.specs.Decimals.{field_at}
use Rattle.theory.specs.Endings.{faulty_feed}
use Rattle.feeds.specs.declared.fault.RecordFault.{RecordFault}
use Rattle.feeds.specs.declared.fault.RecordFaultKind.TheVariants.{OtherLayout, WrongPeriod, DemandTooLarge, NothingLeft, BytesAfterEnd}
use Rattle.feeds.specs.declared.line.Front.{Front}
use Rattle.feeds.specs.declared.line.Front.TheVariants.{Nothing, End, EndAndMore, Other}
use Rattle.feeds.specs.declared.line.Line.{Line}
use Rattle.feeds.specs.Faults.{found}
use Rattle.feeds.specs.Forecasts.{Forecast, goes_further}

-- a line is two numbers of at most 7 digits, a comma behind the first and a line feed behind the second
abbrev pub line_of : Numeral → Option Numeral → Option Line
line_of p None = None
line_of p (Some d) = Some (record { period = p.value; demand = d.value; length = p.length + d.length })

abbrev pub line_after : List ℕ → Option Numeral → Option Line
line_after bs None = None
line_after bs (Some p) = line_of p (field_at 7 10 (drop p.length bs))

unfoldable pub line_at : List ℕ → Option Line
line_at bs = line_after bs (field_at 7 44 bs)

-- the first four bytes are `end` and a line feed
abbrev pub end_line : List ℕ → Bool
end_line bs =
    nat_le 4 (length bs) && (slice_index bs 0 == 101 && (slice_index bs 1 == 110 && (slice_index bs 2 == 100 && slice_index bs 3 == 10)))

-- what bs begins with
abbrev pub front_of : List ℕ → Front
front_of bs = cond (length bs == 0) Nothing (cond (end_line bs) (cond (length bs == 4) End EndAndMore) Other)

-- a line at this place, once so many periods were handed out, if nothing is wrong with it
abbrev pub checked : ℕ → ℕ → Option Line → Result (Option Line) RecordFault
checked place handed None = Err (found place handed OtherLayout)
checked place handed (Some l) =
    cond (l.period == handed + 1)
    (cond (nat_le l.demand 1000000) (Ok (Some l)) (Err (found place handed DemandTooLarge)))
    (Err (found place handed WrongPeriod))

-- the record at this place: a line, or none where the forecast ends
abbrev pub record_of : ℕ → ℕ → List ℕ → Front → Result (Option Line) RecordFault
record_of place handed bs Nothing = Err (found place handed NothingLeft)
record_of place handed bs End = Ok None
record_of place handed bs EndAndMore = Err (found (place + 4) handed BytesAfterEnd)
record_of place handed bs Other = checked place handed (line_at bs)

unfoldable pub record_at : ℕ → ℕ → List ℕ → Result (Option Line) RecordFault
record_at place handed bs = record_of place handed bs (front_of bs)

-- n lines at most, and then no byte is left
unfoldable pub forecast_in : ℕ → ℕ → ℕ → List ℕ → Forecast
forecast_in zero place handed bs = record { demands = []; ending = faulty_feed (record { fault = found place handed NothingLeft; layers = 0 }) }
forecast_in (suc n) place handed bs = goes_further (λ l. l.demand) (record_at place handed bs) (λ l. forecast_in n (place + l.length) (handed + 1) (drop l.length bs))

-- the forecast that the bytes bs from this place on are, once so many periods were handed out; no line takes less than a byte
unfoldable pub forecast : ℕ → ℕ → List ℕ → Forecast
forecast place handed bs = forecast_in (length bs) place handed bs
