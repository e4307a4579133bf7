-- What holds of every forecast, whatever it was read from.
use Rattle.std.proofs.Common.{◌≡◌, ℕ, ◌∷◌, Some, None, Ok, Err, Option, Result, refl, ap}
use Rattle.feeds.specs.declared.fault.RecordFault.{RecordFault}
use Rattle.feeds.specs.Forecasts.{Forecast, goes_further}

-- a forecast with one demand more in front
abbrev pub preceded : ℕ → Forecast → Forecast
preceded d g = record { demands = d ∷ g.demands; ending = g.ending }

-- two forecasts that go on alike after the record that was read, if one was
pub same_rest : {R : Type 0} (demand : R → ℕ) (r : Result (Option R) RecordFault) (f g : R → Forecast)
    → ((x : R) → r ≡ Ok (Some x) → f x ≡ g x) → goes_further demand r f ≡ goes_further demand r g
same_rest demand (Err e) f g h = refl
same_rest demand (Ok None) f g h = refl
same_rest demand (Ok (Some x)) f g h = ap (preceded (demand x)) (h x refl)
