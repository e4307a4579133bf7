-- The cost line at the front of a text: three numbers of at most 10 digits, a comma behind each of the first two and a line feed behind the last.
use Rattle.std.specs.Prelude.{ℕ, ◌+◌, List, drop, Some, None, Option}
use Rattle.lots.specs.declared.decimal.Numeral.{Numeral}
use Rattle.lots.specs.Decimals.{field_at}
use Rattle.reporting.specs.declared.cost_line.CostLine.{CostLine}

-- the line of these three numbers, the last of which may not be there
abbrev pub line_of : Numeral → Numeral → Option Numeral → Option CostLine
line_of k c None = None
line_of k c (Some h) = Some (record { setup = k.value; unit = c.value; holding = h.value; length = k.length + c.length + h.length })

-- the line of two numbers, where bs follows the first
abbrev pub line_behind : Numeral → List ℕ → Option Numeral → Option CostLine
line_behind k bs None = None
line_behind k bs (Some c) = line_of k c (field_at 10 10 (drop c.length bs))

-- the line of one number, which is the first of bs
abbrev pub line_after : List ℕ → Option Numeral → Option CostLine
line_after bs None = None
line_after bs (Some k) = line_behind k (drop k.length bs) (field_at 10 44 (drop k.length bs))

unfoldable pub cost_line_of : List ℕ → Option CostLine
cost_line_of bs = line_after bs (field_at 10 44 bs)
