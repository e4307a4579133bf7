-- What holds of every cost line.
use Rattle.std.proofs.Common.{◌≡◌, ℕ, ◌≤◌, List, length, drop, IfSome, Some, None, Option, sym, subst, arith, length-drop}
use Rattle.lots.specs.declared.decimal.Numeral.{Numeral}
use Rattle.lots.specs.Decimals.{field_at, Bounded}
use Rattle.lots.proofs.Decimals.{field_bounded}
use Rattle.reporting.specs.declared.cost_line.CostLine.{CostLine}
use Rattle.reporting.specs.CostLines.{line_of, line_behind, line_after, cost_line_of}

-- a line takes no more bytes than there are
abbrev Within : List ℕ → CostLine → Type 0
Within bs l = l.length ≤ length bs

pub cost_line_within : (bs : List ℕ) → IfSome (cost_line_of bs) (Within bs)
unfolding cost_line_of
cost_line_within bs = one (field_at 10 44 bs) (field_bounded 10 44 bs)
  where
    three : (k c : Numeral) → Bounded 10 bs k → Bounded 10 (drop k.length bs) c →
        (o : Option Numeral) → IfSome o (Bounded 10 (drop c.length (drop k.length bs))) → IfSome (line_of k c o) (Within bs)
    three k c p q None r = tt
    three k c p q (Some h) r =
        omega (arith, p.within, q.within, r.within, length-drop k.length bs, length-drop c.length (drop k.length bs))

    two : (k : Numeral) → Bounded 10 bs k → (o : Option Numeral) → IfSome o (Bounded 10 (drop k.length bs)) →
        IfSome (line_behind k (drop k.length bs) o) (Within bs)
    two k p None q = tt
    two k p (Some c) q =
        let rest : List ℕ = drop c.length (drop k.length bs) in
        three k c p q (field_at 10 10 rest) (field_bounded 10 10 rest)

    one : (o : Option Numeral) → IfSome o (Bounded 10 bs) → IfSome (line_after bs o) (Within bs)
    one None p = tt
    one (Some k) p = two k p (field_at 10 44 (drop k.length bs)) (field_bounded 10 44 (drop k.length bs))

pub cost_line_told : (bs : List ℕ) (r : Option CostLine) → r ≡ cost_line_of bs → record { told : r ≡ cost_line_of bs; within : IfSome r (Within bs) }
cost_line_told bs r e = record { told = e; within = subst (λ o. IfSome o (Within bs)) (sym e) (cost_line_within bs) }
