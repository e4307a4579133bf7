-- Layers of netting that numbers describe, and what they make of a forecast.
use Rattle.std.specs.Prelude.{ℕ, zero, suc, ◌*◌, ◌/◌, if◌then◌else◌, List, [], ◌∷◌, map, length, take, drop, Ok, Err, Result, nat_lt, slice_index}
use Rattle.std.specs.Simd.{first_chunks}
use Rattle.theory.specs.Endings.{Ending}
use Rattle.theory.specs.Netting as theory
use Rattle.feeds.specs.declared.fault.FeedFault.{FeedFault}
use Rattle.feeds.specs.declared.receipt.Receipt.{Receipt}
use Rattle.feeds.specs.Forecasts.{Forecast}
use Rattle.feeds.specs.Netting.{above}
use Rattle.feeds.specs.Receipts.{supplies, supply_fault}
use Rattle.clib.specs.declared.error.Refusal.{Refusal}
use Rattle.clib.specs.declared.error.Refusal.TheVariants.{Layout, Netting}
use Rattle.clib.specs.Outcomes.{and_then, unless}

-- the receipt that two numbers are: its period and its amount
abbrev pub receipt_of : List ℕ → Receipt
receipt_of ns = record { period = slice_index ns 0; amount = slice_index ns 1 }

-- the receipts that numbers are, a single one at the end left out
abbrev pub receipts_of : List ℕ → List Receipt
receipts_of ns = map receipt_of (first_chunks 2 (length ns / 2) ns)

-- a layer: its stock, its receipts, and the numbers behind it
pub record Supplied : Type 0 where
  pub stock : ℕ
  pub receipts : List Receipt
  pub rest : List ℕ

-- the layer of these three
abbrev pub supplied : ℕ → List Receipt → List ℕ → Supplied
supplied stock receipts rest = record { stock = stock; receipts = receipts; rest = rest }

-- the layer at the front: a stock, how many receipts there are, and the receipts
abbrev pub layer_due : List ℕ → Result Supplied Refusal
layer_due [] = Err Layout
layer_due (s ∷ []) = Err Layout
layer_due (s ∷ n ∷ ns) =
    if nat_lt (length ns) (2 * n) then Err Layout else Ok (supplied s (receipts_of (take (2 * n) ns)) (drop (2 * n) ns))

-- what a feed still hands out, as a forecast
abbrev pub forecast_of : {F : Type 0} → (F → List ℕ) → (F → Ending FeedFault) → F → Forecast
forecast_of demands ending feed = record { demands = demands feed; ending = ending feed }

-- what a layer makes of a forecast: the net demands, with the ending of the forecast below
abbrev pub net_forecast : ℕ → List Receipt → Forecast → Forecast
net_forecast stock receipts f =
    record { demands = theory.nets stock (supplies receipts) f.demands (length f.demands); ending = above f.ending }

-- the forecast above one layer, if its stock and receipts are right
abbrev pub netted_due : ℕ → List Receipt → Forecast → Result Forecast Refusal
netted_due stock receipts f = unless (supply_fault stock receipts) Netting (net_forecast stock receipts f)

-- the forecast above all layers that the numbers describe, of which there are n at most
abbrev pub through : ℕ → List ℕ → Forecast → Result Forecast Refusal
through n [] f = Ok f
through zero (x ∷ xs) f = Err Layout
through (suc n) (x ∷ xs) f = and_then (layer_due (x ∷ xs)) (λ y. and_then (netted_due y.stock y.receipts f) (through n y.rest))
