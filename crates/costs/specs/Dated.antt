-- The dated model: costs that change from date to date.
use Rattle.std.specs.Prelude.{ℕ, suc, ◌+◌, ◌-◌, ◌<◌, ◌≤◌, Bool, false, cond, ◌||◌, List, [], ◌∷◌, length, Some, None, Option, nat_le, nat_lt, slice_index_or}
use Rattle.std.specs.Option.{option_map, option_or}
use Rattle.lots.specs.declared.dated.DatedFault.{DatedFault}
use Rattle.lots.specs.declared.dated.FirstDate.TheVariants.{Exactly}
use Rattle.lots.specs.Dated.{dated_fault, dated_number}
use Rattle.theory.specs.Recursion.{over}
use Rattle.costs.specs.Constant.{cost_fault, fault_number}
use Rattle.costs.specs.declared.fault.CostFault.{CostFault}
use Rattle.costs.specs.declared.line.CostLine.{CostLine}
use Rattle.costs.specs.declared.lines.DatedCostsFault.{DatedCostsFault}
use Rattle.costs.specs.declared.lines.DatedCostsFault.TheVariants.{Lines, Speculation}

-- the last line whose date has come in period p, which is x where no later line's has
abbrev pub latest : CostLine → List CostLine → ℕ → CostLine
latest x [] p = x
latest x (y ∷ ys) p = cond (nat_le y.date p) (latest y ys p) x

-- what holds before the first line: no costs at all
abbrev pub empty_line : CostLine
empty_line = record { date = 0; setup = 0; unit = 0; holding = 0 }

-- the line in force in period p: each holds from its date to the next one's, and the last for ever
unfoldable pub line_at : List CostLine → ℕ → CostLine
line_at lines p = latest empty_line lines p

-- the charge of a setup in period j
abbrev pub dated_setup : List CostLine → ℕ → ℕ
dated_setup lines j = (line_at lines j).setup

-- a unit costs its making in period j, and its holding in each period from j until the one before its use
abbrev pub dated_price : List CostLine → ℕ → ℕ → ℕ
dated_price lines j i = (line_at lines j).unit + over (λ p. (line_at lines p).holding) j (i - 1)

-- what it costs to hold a unit through all the periods before p
unfoldable pub holding_before : List CostLine → ℕ → ℕ
holding_before lines p = over (λ q. (line_at lines q).holding) 1 (p - 1)

-- whether a unit cost among these lines is above the unit and holding cost of the line before it, which is x for the first
abbrev pub jumps_behind : CostLine → List CostLine → Bool
jumps_behind x [] = false
jumps_behind x (y ∷ ys) = nat_lt (x.unit + x.holding) y.unit || jumps_behind y ys

-- whether a line's unit cost is above the unit and holding cost of the line before it
abbrev pub jumps : List CostLine → Bool
jumps [] = false
jumps (x ∷ xs) = jumps_behind x xs

-- what the check of dated lines finds: 1 to 64 lines, the first dated 1
abbrev pub line_fault : List CostLine → Option (DatedFault CostFault)
line_fault lines = dated_fault (λ x. x.date) (λ x. cost_fault x.setup x.unit x.holding) 1 64 (Exactly 1) lines

-- why these lines make no model: what the check finds, or else a unit cost that jumps
unfoldable pub lines_fault : List CostLine → Option DatedCostsFault
lines_fault lines = option_or (option_map Lines (line_fault lines)) (cond (jumps lines) (Some Speculation) None)

-- the number by which each refusal is told
abbrev pub lines_number : DatedCostsFault → ℕ
lines_number (Lines f) = dated_number fault_number f
lines_number Speculation = 6

-- the line at k is in force in period p: its date has come, and that of the next has not
pub record InForce (lines : List CostLine) (k p : ℕ) : Type 0 where
  pub within : k < length lines
  pub begun : (slice_index_or lines k empty_line).date ≤ p
  pub unended : suc k < length lines → p < (slice_index_or lines (suc k) empty_line).date
