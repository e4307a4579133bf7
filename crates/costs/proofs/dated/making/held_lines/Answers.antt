use Rattle.std.proofs.Common.{◌≡◌, get_or, sym, ◌∙◌, refl}
use Rattle.costs.specs.Dated.{empty_line, holding_before}
use Rattle.costs.proofs.Keeping.{next_sum, first_sum, next_fits, kept_more}
use Rattle.costs.proofs.dated.making.held_lines.Goals as goal
use Rattle.costs.proofs.dated.making.held_lines.Goals.{in-Some, in-None}

pub held_before-held-requires : goal.held_before-held-requires
held_before-held-requires c = (next_sum _ _ _ _ c.requires c.loop-line-test.true c.loop-line.invariant (sym (rw c.deref.ensures.value at c.in-Some.ensures.value))).0

pub invariant_of-push : goal.invariant_of-push
invariant_of-push c =
    let s : c.match-last.held ≡ holding_before c.args.lines.now (get_or c.args.lines.now c.loop-line.line-index empty_line).date = elim c.match-last.branch [
      | in-Some w ↦ w.held-is ∙ w.held_before-held.ensures.value ∙ (next_sum _ _ _ _ c.requires c.loop-line-test.true c.loop-line.invariant (sym (rw c.deref.ensures.value at w.in-Some.ensures.value))).1
      | in-None w ↦ w.held-is ∙ first_sum _ _ _ c.requires c.loop-line-test.true c.loop-line.invariant (sym (rw c.deref.ensures.value at w.in-None.ensures.value))
    ] in
    let f = next_fits c.args.lines.now c.loop-line.line-index _ c.requires c.loop-line-test.true s in
    record { holding_fits = f.0; held_fits = f.1 }

pub loop-line-preserved : goal.loop-line-preserved
loop-line-preserved c =
    let s : c.match-last.held ≡ holding_before c.args.lines.now (get_or c.args.lines.now c.loop-line.line-index empty_line).date = elim c.match-last.branch [
      | in-Some w ↦ w.held-is ∙ w.held_before-held.ensures.value ∙ (next_sum _ _ _ _ c.requires c.loop-line-test.true c.loop-line.invariant (sym (rw c.deref.ensures.value at w.in-Some.ensures.value))).1
      | in-None w ↦ w.held-is ∙ first_sum _ _ _ c.requires c.loop-line-test.true c.loop-line.invariant (sym (rw c.deref.ensures.value at w.in-None.ensures.value))
    ] in
    rw c.in_ok-push.ensures.items (kept_more _ _ _ _ c.loop-line-test.true c.loop-line.invariant refl s)
