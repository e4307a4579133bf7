use Rattle.std.proofs.Common.{◌≡◌, ◌++◌, map, take, string_bytes}
use Rattle.lots.specs.Lots.{terms}
use Rattle.reporting.specs.Printing.{lot_lines}
use Rattle.reporting.proofs.print.write_lots.Given as goal

abbrev pub invariant-loop-lot : goal.invariant-loop-lot
invariant-loop-lot l = string_bytes l.out ≡ string_bytes l.initial.out ++ lot_lines (map terms (take l.lot-index l.lots))
