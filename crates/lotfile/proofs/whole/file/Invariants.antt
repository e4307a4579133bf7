use Rattle.std.proofs.Common.{◌≡◌, take, vec_items}
use Rattle.lotfile.proofs.Filing.{lots_bytes}
use Rattle.lotfile.proofs.whole.file.Given as goal

abbrev pub invariant-loop-lot : goal.invariant-loop-lot
invariant-loop-lot l = vec_items l.out ≡ lots_bytes (take l.lot-index l.lots)
