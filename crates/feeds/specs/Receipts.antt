-- Receipts, and what stock and receipts leave of the demands of one period after another.
use Rattle.std.specs.Prelude.{ℕ, ◌+◌, ◌-◌, Bool, true, cond, ◌&&◌, List, [], ◌∷◌, map, Some, None, Option, nat_le, nat_lt}
use Rattle.lots.specs.declared.dated.DatedFault.{DatedFault}
use Rattle.lots.specs.declared.dated.FirstDate.TheVariants.{AtLeast}
use Rattle.lots.specs.Dated.{dated_fault, dated_number}
use Rattle.std.specs.Option.{option_map}
use Rattle.theory.specs.Netting as theory
use Rattle.feeds.specs.declared.netting.fault.NettingFault.{NettingFault}
use Rattle.feeds.specs.declared.netting.fault.NettingFault.TheVariants.{Stock, Receipts}
use Rattle.feeds.specs.declared.receipt.Receipt.{Receipt}
use Rattle.feeds.specs.declared.receipt.ReceiptFault.{ReceiptFault}

-- what a receipt earns by its amount
abbrev pub receipt_fault : Receipt → Option ReceiptFault
receipt_fault x = cond (nat_lt 1000000000 x.amount) (Some (record {})) None

abbrev pub receipt_number : ReceiptFault → ℕ
receipt_number f = 7

-- why receipts are refused: more than 32, dates that do not rise from 1 or later, or an amount
abbrev pub receipts_fault : List Receipt → Option (DatedFault ReceiptFault)
receipts_fault xs = dated_fault (λ x. x.period) receipt_fault 0 32 (AtLeast 1) xs

-- whether receipts rise, none before period p and none too large
abbrev pub coming_from : ℕ → List Receipt → Bool
coming_from p [] = true
coming_from p (x ∷ xs) = nat_le p x.period && (nat_le x.amount 1000000000 && coming_from (x.period + 1) xs)

-- receipts as the arithmetic of netting knows them
abbrev pub supplies : List Receipt → List theory.Receipt
supplies xs = map (λ x. record { period = x.period; amount = x.amount }) xs

-- the net demands of periods from i on, with so much carried in: each is its demand less what is available, and what is left is carried on
unfoldable pub netted : List theory.Receipt → ℕ → ℕ → List ℕ → List ℕ
netted rs i stock [] = []
netted rs i stock (d ∷ ds) =
    let available : ℕ = stock + theory.received rs i in
    (d - available) ∷ netted rs (i + 1) (available - d) ds

-- why a layer cannot be made: its stock, else its receipts
abbrev pub supply_fault : ℕ → List Receipt → Option NettingFault
supply_fault stock xs = cond (nat_lt 1000000000 stock) (Some Stock) (option_map Receipts (receipts_fault xs))

-- the number of each refusal
abbrev pub netting_number : NettingFault → ℕ
netting_number Stock = 8
netting_number (Receipts f) = dated_number receipt_number f
