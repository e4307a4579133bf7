use Rattle.clib.proofs.wirthedol_plan_text.Goals as goal

pub returns : goal.returns
returns c = c.hand_over.ensures _ (rw c.new.ensures.whole at c.plan_file.ensures)
