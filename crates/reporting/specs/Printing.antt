-- What the printing program prints.
use Rattle.std.specs.Prelude.{ℕ, List, ◌++◌, flat_map, Some, None, Ok, Err, Option, Result}
use Rattle.lots.specs.Lots.{Terms}
use Rattle.planner.specs.declared.refusals.ReadRefusal.{ReadRefusal}
use Rattle.reporting.specs.declared.refusal.Refusal.{Refusal}
use Rattle.reporting.specs.Lines.{lot_line, total_line, line_of_refusal}
use Rattle.reporting.specs.Planning.{Plan, total_cost}
use Rattle.reporting.specs.Refusals.{read_told, read_place, refusal_number, refusal_place}

-- a line for each lot
abbrev pub lot_lines : List Terms → List ℕ
lot_lines ys = flat_map lot_line ys

-- the last line: the total, or in its place why the demands were not read to their end
abbrev pub last_line : Option ReadRefusal → ℕ → List ℕ
last_line None total = total_line total
last_line (Some r) total = line_of_refusal (read_told r) (read_place r)

-- a line for each lot, and then the last line
abbrev pub plan_lines : Plan → List ℕ
plan_lines p = lot_lines p.lots ++ last_line p.stop (total_cost p.lots)

-- a plan's lines, or the line of the refusal in its place
abbrev pub printed_plan : Result Plan Refusal → List ℕ
printed_plan (Ok p) = plan_lines p
printed_plan (Err r) = line_of_refusal (refusal_number r) (refusal_place r)
