use Rattle.std.proofs.Common.{Some, sym, ap, ◌∙◌, subst, arith}
use Rattle.theory.specs.Series.{take_call}
use Rattle.planner.specs.Proving.{TellsProved}
use Rattle.planner.specs.Windows.{window}
use Rattle.planner.proofs.Following.{stays}
use Rattle.planner.proofs.Taking.{proved_spans, proved_settled, proved_onward, proved_strictly, moved_reads, proved_inside, untaken, takes}
use Rattle.planner.proofs.planner.Planner.take.Given as given
use Rattle.planner.proofs.planner.Planner.take.Goals as goal
use Rattle.planner.proofs.planner.Planner.take.Goals.{In-Some}

-- the span is that of the lot that is proved
told : (g : given.Over) (c : In-Some g) → TellsProved (window c.self.inside.rows) (Some c.in-Some.span)
told g c = subst (TellsProved (window c.self.inside.rows)) c.in-Some.is c.self.inside.right

pub returns-in_default-clause-follows : goal.returns-in_default-clause-follows
returns-in_default-clause-follows g c = rw (← c.self.view_is)
    (λ all es tr.
    stays _ all es _ tr take_call _ (untaken _ all es _ tr (subst (TellsProved (window c.self.inside.rows)) c.in_default.is c.self.inside.right)))

pub lot-lot-requires : goal.lot-lot-requires
lot-lot-requires g c =
    let r = c.self.inside.rows in
    let t = told g (goal.at.lot-lot-requires g c).In-Some in
    record { spans = proved_spans (window r) r.sound _ t; settled = λ _. proved_settled (window r) r.sound _ t }

pub move_base-requires : goal.move_base-requires
move_base-requires g c =
    let r = c.self.inside.rows in
    let t = told g (goal.at.move_base-requires g c).In-Some in
    record { onward = proved_onward (window r) r.sound _ t; inside = proved_inside (window r) r.sound _ t }

pub returns-clause-follows : goal.returns-clause-follows
returns-clause-follows g c = rw (← c.self.view_is)
    (λ all es tr. takes _ all es _ tr _ (told g (goal.at.returns-clause-follows g c).In-Some) c.lot-lot.result c.lot-lot.ensures.means _ c.move_base.ensures)

pub returns-clause-onward : goal.returns-clause-onward
returns-clause-onward g c =
    let r = c.self.inside.rows in
    let t = told g (goal.at.returns-clause-onward g c).In-Some in
    let through = c.lot-lot.ensures.through in
    rw (← c.self.view_is) (
      ap (λ w. w.base) c.move_base.ensures ∙ sym through,
      omega (arith, proved_strictly (window r) r.sound _ t, through),
      moved_reads (window r) r.sound _ t _ c.move_base.ensures,
    )
