use Rattle.std.proofs.Common.{rules}
use Rattle.lots.proofs.Lines.{IsFound, earned_found}
use Rattle.lots.proofs.dated.first_earned.Goals as goal

pub returns : goal.returns
returns g c =
    let found : IsFound g.L.DatedLine.earned c.args.lines.now c.find_map.result = search rules in
    earned_found g.L.DatedLine.earned c.args.lines.now c.find_map.result found
