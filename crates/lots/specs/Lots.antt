-- A lot by its numbers, and which numbers make a lot.
use Rattle.std.specs.Prelude.{ℕ, ◌+◌, ◌^◌, Bool, true, cond, ◌&&◌, Some, None, Option, nat_le, nat_lt}
use Rattle.lots.specs.declared.lot.Lot.{Lot}
use Rattle.lots.specs.declared.lot.LotKind.{LotKind}
use Rattle.lots.specs.declared.lot.LotKind.TheVariants.{Frozen, Closing}

-- the kind and the five numbers of a lot, lawful or not
pub record Terms : Type 0 where
  pub kind : LotKind
  pub from : ℕ
  pub through : ℕ
  pub amount : ℕ
  pub cost : ℕ
  pub evidence : ℕ

-- the terms of a lot, which are always lawful
abbrev pub terms : Lot → Terms
terms y = record { kind = y.kind; from = y.from; through = y.through; amount = y.amount; cost = y.cost; evidence = y.evidence }

-- a frozen lot was read past its last period
abbrev pub settled : LotKind → ℕ → ℕ → Bool
settled Frozen through evidence = nat_lt through evidence
settled Closing through evidence = true

-- lawful terms: periods in order and few, at most 256 of them served, an amount and a cost in bounds, and settled
abbrev pub lawful : Terms → Bool
lawful y =
    nat_le 1 y.from && (nat_le y.from y.through && (nat_le y.through y.evidence && (nat_le y.evidence 10000 &&
    (nat_le y.through (y.from + 255) && (nat_le 1 y.amount && (nat_le y.amount 256000000 && (nat_lt y.cost (2 ^ 60) &&
    settled y.kind y.through y.evidence)))))))

-- the terms of the lot that these numbers make, or none where they are not lawful
abbrev pub lot_of : LotKind → ℕ → ℕ → ℕ → ℕ → ℕ → Option Terms
lot_of kind from through amount cost evidence =
    let y : Terms = record { kind = kind; from = from; through = through; amount = amount; cost = cost; evidence = evidence } in
    cond (lawful y) (Some y) None
