use Rattle.std.proofs.Common.{◌≡◌, drop, vec_items}
use Rattle.rolling_report.specs.Replaying.{calls_of}
use Rattle.rolling_report.proofs.Lettering.{behind_calls}
use Rattle.rolling_report.proofs.letters.calls_of.Given as goal

abbrev pub invariant-loop-letter : goal.invariant-loop-letter
invariant-loop-letter l = calls_of l.letters ≡ behind_calls (vec_items l.calls) (calls_of (drop l.letter-index l.letters))
