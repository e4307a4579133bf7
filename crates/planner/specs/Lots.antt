-- Lots as the planner hands them out.
use Rattle.std.specs.Prelude.{◌≡◌, ℕ, ◌-◌, ◌<◌, ◌≤◌, Some, None, Option}
use Rattle.lots.specs.Lots.{Terms}
use Rattle.lots.specs.declared.lot.LotKind.{LotKind}
use Rattle.theory.specs.Recursion.{Lot}
use Rattle.planner.specs.declared.rows.row.Span.{Span}
use Rattle.planner.specs.Describing.{Window, row_after, reading}

-- a planned lot's periods
abbrev pub span_of : Lot → Span
span_of y = record { from = y.from; through = y.through }

-- a planned lot as it is handed out
abbrev pub handed : LotKind → ℕ → Lot → Terms
handed kind evidence y = record { kind = kind; from = y.from; through = y.through; amount = y.amount; cost = y.costs; evidence = evidence }

-- the span lies in the window after a period, and begins with the last setup of its end
pub record Spans (w : Window) (after : ℕ) (s : Span) : Type 0 where
  pub later : after < s.from
  pub read : s.through ≤ reading w
  pub ends : (row_after w (s.through - w.base)).last ≡ s.from

-- the same of a span that may be there
abbrev pub SpansIf : Window → ℕ → Option Span → Type 0
SpansIf w after None = Unit {0}
SpansIf w after (Some s) = Spans w after s
