use Rattle.std.proofs.lemmas.Result.{err_from_is_err_and}
use Rattle.costs.proofs.Refusing.{fault_of_line, fault_of_jump, no_fault}
use Rattle.costs.proofs.lines.check_lines.Goals as goal

pub returns-in_err-check_dated : goal.returns-in_err-check_dated
returns-in_err-check_dated c =
    let p = err_from_is_err_and c.from_residual.result c.from_residual.ensures.1 in
    rw (p.1, p.2) (fault_of_line c.args.lines.now c.in_err-check_dated.field-0.0 c.in_err-check_dated.ensures)

pub returns-then-jumps_up : goal.returns-then-jumps_up
returns-then-jumps_up c = fault_of_jump c.args.lines.now c.in_ok-check_dated.ensures c.if-jumps_up.ensures

pub returns : goal.returns
returns c = no_fault c.args.lines.now c.in_ok-check_dated.ensures c.if-jumps_up.ensures
