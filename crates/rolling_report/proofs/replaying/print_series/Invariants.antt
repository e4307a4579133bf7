use Rattle.std.proofs.Common.{◌≡◌, map, take, string_bytes}
use Rattle.planner.specs.Answers.{entry_of}
use Rattle.rolling_report.specs.Replaying.{answer_lines}
use Rattle.rolling_report.proofs.replaying.print_series.Given as goal

abbrev pub invariant-loop-entry : goal.invariant-loop-entry
invariant-loop-entry l = string_bytes l.out ≡ answer_lines (map entry_of (take l.entry-index l.entry-items))
