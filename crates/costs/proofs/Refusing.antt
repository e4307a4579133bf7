-- Why cost lines are refused, from what the two parts of the check found.
use Rattle.std.proofs.Common.{◌≡◌, Bool, true, false, cond, List, Some, None, Option, refl, ap, ◌∙◌}
use Rattle.std.specs.Option.{option_map, option_or}
use Rattle.lots.specs.declared.dated.DatedFault.{DatedFault}
use Rattle.costs.specs.declared.fault.CostFault.{CostFault}
use Rattle.costs.specs.declared.line.CostLine.{CostLine}
use Rattle.costs.specs.declared.lines.DatedCostsFault.{DatedCostsFault}
use Rattle.costs.specs.declared.lines.DatedCostsFault.TheVariants.{Lines, Speculation}
use Rattle.costs.specs.Dated.{line_fault, jumps, lines_fault}

abbrev either : Option (DatedFault CostFault) → Bool → Option DatedCostsFault
either o j = option_or (option_map Lines o) (cond j (Some Speculation) None)

-- each is stated from what was found, as the calls tell it
by_parts : (lines : List CostLine) (o : Option (DatedFault CostFault)) (j : Bool) → o ≡ line_fault lines → j ≡ jumps lines → either o j ≡ lines_fault lines
unfolding lines_fault
by_parts lines o j e k = ap (λ a. either a j) e ∙ ap (either (line_fault lines)) k

pub fault_of_line : (lines : List CostLine) (f : DatedFault CostFault) → Some f ≡ line_fault lines → Some (Lines f) ≡ lines_fault lines
fault_of_line lines f e = by_parts lines (Some f) (jumps lines) e refl

pub fault_of_jump : (lines : List CostLine) → None ≡ line_fault lines → true ≡ jumps lines → Some Speculation ≡ lines_fault lines
fault_of_jump lines e j = by_parts lines None true e j

pub no_fault : (lines : List CostLine) → None ≡ line_fault lines → false ≡ jumps lines → None ≡ lines_fault lines
no_fault lines e j = by_parts lines None false e j
