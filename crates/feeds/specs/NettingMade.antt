-- What comes of making a netting layer.
use Rattle.std.specs.Prelude.{◌≡◌, ℕ, List, length, Some, None, Ok, Err, vec_items, Result, Vec}
use Rattle.std.specs.declared.alloc.Global.{Global}
use Rattle.theory.specs.Netting as theory
use Rattle.feeds.specs.declared.netting.Netting.{Netting}
use Rattle.feeds.specs.declared.netting.making.NettingRefused.{NettingRefused}
use Rattle.feeds.specs.declared.receipt.Receipt.{Receipt}
use Rattle.feeds.specs.Netting.{net_of}
use Rattle.feeds.specs.Receipts.{supplies, supply_fault}

-- what a layer of this stock and these receipts does with gross demands
pub record Nets (stock : ℕ) (receipts : List Receipt) (net : List ℕ → List ℕ) : Type 0 where
  pub rising : theory.Rising 0 (supplies receipts)
  pub nets : (gross : List ℕ) → net gross ≡ theory.nets stock (supplies receipts) gross (length gross)

-- a making comes to a layer over the feed, or to the refusal that stock and receipts earn, with feed and receipts handed back
abbrev pub Made : {F : Type 0} → F → ℕ → Vec Receipt Global → Result (Netting F) (NettingRefused F) → Type 0
Made feed stock receipts (Ok n) =
    (supply_fault stock (vec_items receipts) ≡ None) × (n.feed ≡ feed) × Nets stock (vec_items receipts) (net_of n.supply)
Made feed stock receipts (Err e) =
    (supply_fault stock (vec_items receipts) ≡ Some e.fault) × (e.feed ≡ feed) × (e.receipts ≡ receipts)
