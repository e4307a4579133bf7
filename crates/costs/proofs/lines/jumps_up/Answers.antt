use Rattle.std.proofs.Common.{rules}
use Rattle.costs.proofs.Jumps.{jumps_told}
use Rattle.costs.proofs.lines.jumps_up.Goals as goal

pub returns : goal.returns
returns c = jumps_told c.args.lines.now c.any.result (search rules)
