use Rattle.std.proofs.Common.{◌≡◌, ◌≤◌}
use Rattle.lots.proofs.Decimals.{Sofar}
use Rattle.lots.proofs.decimal.number.Given as goal

abbrev pub invariant-loop-byte : goal.invariant-loop-byte
invariant-loop-byte l = (l.byte-index ≡ l.length) × (l.length ≤ l.most) × (l.length ≤ 19) × Sofar l.text l.length l.value
