-- The forecast that order words are: a word opens each period, orders and cancellations follow it, and a word ends the file.
use Rattle.std.specs.Prelude.{ℕ, zero, suc, ◌+◌, ◌-◌, Bool, true, false, cond, List, [], length, drop, Some, None, Ok, Err, Option, Result, ◌==◌, nat_le, nat_lt}
use Rattle.lots.specs.declared.word.WordKind.{WordKind}
use Rattle.lots.specs.declared.word.WordKind.TheVariants.{Zero, One, Two, Three}
use Rattle.lots.specs.Words.{word_kind, number_of_word}
use Rattle.theory.specs.Endings.{faulty_feed}
use Rattle.feeds.specs.declared.fault.RecordFault.{RecordFault}
use Rattle.feeds.specs.declared.fault.RecordFaultKind.TheVariants.{WrongPeriod, DemandTooLarge, NothingLeft, BytesAfterEnd, CutWord, BeforeFirstPeriod, CancelsTooMuch, WrongCount}
use Rattle.feeds.specs.declared.period.Period.{Period}
use Rattle.feeds.specs.Faults.{found}
use Rattle.feeds.specs.Forecasts.{Forecast, goes_further}

-- what is wrong where fewer than four of the bytes bs are left
abbrev pub cut_at : ℕ → ℕ → List ℕ → RecordFault
cut_at place handed bs = cond (length bs == 0) (found place handed NothingLeft) (found place handed CutWord)

-- the running sum behind a word, or none where the word is no longer of the period
abbrev pub counted : ℕ → ℕ → ℕ → WordKind → ℕ → Result (Option ℕ) RecordFault
counted place handed sum Zero n = cond (nat_le (sum + n) 1000000) (Ok (Some (sum + n))) (Err (found place handed DemandTooLarge))
counted place handed sum One n = cond (nat_le n sum) (Ok (Some (sum - n))) (Err (found place handed CancelsTooMuch))
counted place handed sum Two n = Ok None
counted place handed sum Three n = Ok None

-- whether the word opens the next period; if not, it ends the file, of which so many bytes are left
abbrev pub opens : ℕ → ℕ → ℕ → WordKind → ℕ → Result Bool RecordFault
opens place handed left Zero n = Err (found place handed BeforeFirstPeriod)
opens place handed left One n = Err (found place handed BeforeFirstPeriod)
opens place handed left Two n = cond (n == handed + 1) (Ok true) (Err (found place handed WrongPeriod))
opens place handed left Three n =
    cond (n == handed) (cond (nat_lt 4 left) (Err (found (place + 4) handed BytesAfterEnd)) (Ok false)) (Err (found place handed WrongCount))

-- the period that goes on with what was counted at this place
abbrev pub summed : ℕ → ℕ → Result (Option ℕ) RecordFault → (ℕ → Result Period RecordFault) → Result Period RecordFault
summed place sum (Err f) rest = Err f
summed place sum (Ok None) rest = Ok (record { demand = sum; next = place })
summed place sum (Ok (Some s)) rest = rest s

-- the period whose words go on at this place, with its sum so far: its demand, and the place of the word behind it; n words at most
unfoldable pub period_in : ℕ → List ℕ → ℕ → ℕ → ℕ → Result Period RecordFault
period_in zero text handed place sum = Err (cut_at place handed (drop place text))
period_in (suc n) text handed place sum =
    let bs : List ℕ = drop place text in
    cond (nat_lt (length bs) 4) (Err (cut_at place handed bs))
    (summed place sum (counted place handed sum (word_kind bs) (number_of_word bs)) (λ s. period_in n text handed (place + 4) s))

unfoldable pub period_at : List ℕ → ℕ → ℕ → ℕ → Result Period RecordFault
period_at text handed place sum = period_in (length text) text handed place sum

-- a period as the record that was read
abbrev pub some : Result Period RecordFault → Result (Option Period) RecordFault
some (Err f) = Err f
some (Ok p) = Ok (Some p)

abbrev pub begun : List ℕ → ℕ → ℕ → Result Bool RecordFault → Result (Option Period) RecordFault
begun text place handed (Err f) = Err f
begun text place handed (Ok false) = Ok None
begun text place handed (Ok true) = some (period_at text handed (place + 4) 0)

-- the record at this place: a period, or none where the file ends
unfoldable pub order_at : List ℕ → ℕ → ℕ → Result (Option Period) RecordFault
order_at text place handed =
    let bs : List ℕ = drop place text in
    cond (nat_lt (length bs) 4) (Err (cut_at place handed bs)) (begun text place handed (opens place handed (length bs) (word_kind bs) (number_of_word bs)))

-- the forecast from this place on, once so many periods were handed out; n periods at most, and then no byte is left
unfoldable pub orders_in : ℕ → List ℕ → ℕ → ℕ → Forecast
orders_in zero text place handed = record { demands = []; ending = faulty_feed (record { fault = found place handed NothingLeft; layers = 0 }) }
orders_in (suc n) text place handed = goes_further (λ p. p.demand) (order_at text place handed) (λ p. orders_in n text p.next (handed + 1))

-- the forecast that the words from this place on are; no period takes less than a word
unfoldable pub orders : List ℕ → ℕ → ℕ → Forecast
orders text place handed = orders_in (length text) text place handed
