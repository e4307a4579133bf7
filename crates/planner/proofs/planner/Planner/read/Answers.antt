use Rattle.std.proofs.Common.{◌≡◌, [], None, Ok, Err, sym, refl, ap, ◌∙◌, arith}
use Rattle.std.proofs.lemmas.Result.{err_from_is_err_and}
use Rattle.theory.specs.Endings.{finished_feed}
use Rattle.theory.specs.Series.{read_call, refused_call, feed_faulty}
use Rattle.planner.specs.Answers.{read_answer}
use Rattle.planner.specs.Proving.{TellsProved}
use Rattle.planner.specs.Standing.{forecast}
use Rattle.planner.specs.Windows.{window}
use Rattle.planner.proofs.Feeding.{told_some, told_end, told_fault}
use Rattle.planner.proofs.Following.{grown_reads, stays, stays_so, waits, full, limit, ended, faulty, goes_on, some_told, none_told}
use Rattle.planner.proofs.Standing.{same_feed}
use Rattle.planner.proofs.planner.Planner.read.Given as given
use Rattle.planner.proofs.planner.Planner.read.Goals as goal
use Rattle.planner.proofs.planner.Planner.read.Goals.{Else-is_some, In_default}

-- nothing is proved where the first test failed
unproved : (g : given.Over) (c : Else-is_some g) → TellsProved (window c.self.inside.rows) None
unproved g c = none_told _ _ (sym c.is_some.ensures ∙ c.if-is_some.false) c.self.inside.right

pub returns-then-is_some-clause-follows : goal.returns-then-is_some-clause-follows
returns-then-is_some-clause-follows g c = rw (← c.self.view_is)
    (λ all es tr.
    let some = some_told _ _ (sym c.is_some.ensures ∙ c.if-is_some.true) c.self.inside.right in
    stays _ all es _ tr read_call _ (waits _ all es _ tr some.0 some.1))

pub returns-then-len-ge-WINDOW-clause-follows : goal.returns-then-len-ge-WINDOW-clause-follows
returns-then-len-ge-WINDOW-clause-follows g c = rw (← c.self.view_is)
    (λ all es tr. stays _ all es _ tr read_call _ (full _ all es _ tr (unproved g (goal.at.returns-then-len-ge-WINDOW-clause-follows g c).Else-is_some) (omega (arith, c.len.ensures))))

pub returns-then-read-ge-LONGEST-clause-follows : goal.returns-then-read-ge-LONGEST-clause-follows
returns-then-read-ge-LONGEST-clause-follows g c = rw (← c.self.view_is)
    (λ all es tr.
    stays _ all es _ tr read_call _
    (limit _ all es _ tr (unproved g (goal.at.returns-then-read-ge-LONGEST-clause-follows g c).Else-is_some) (omega (arith, c.len.ensures)) (omega (arith, c.read.ensures))))

-- where the feed told its end, it is as it was
ended_feed : (g : given.Over) (c : In_default g) → (g.F.Feed.demands c.self.inside.feed ≡ []) × (g.F.Feed.ending c.self.inside.feed ≡ finished_feed) × (c.next.new.self ≡ c.self.inside.feed)
ended_feed g c =
    let end = told_end _ _ (sym (ap Ok c.in_default.is) ∙ sym c.in_ok-demand.was ∙ c.next.ensures.told) in
    (end.0, end.1, c.next.ensures.ended end.0)

pub returns-in_default-clause-follows : goal.returns-in_default-clause-follows
returns-in_default-clause-follows g c =
    let p = c.self.inside in
    let end = ended_feed g (goal.at.returns-in_default-clause-follows g c).In_default in
    rw (← c.self.view_is)
    (λ all es tr.
    stays_so _ all es _ tr read_call _ _ _ refl (ap (λ f. record { window = window p.rows; left = forecast g.F.Feed f }) end.2)
    (ended _ all es _ tr (unproved g (goal.at.returns-in_default-clause-follows g c).Else-is_some) (omega (arith, c.len.ensures)) (omega (arith, c.read.ensures)) end.0 end.1))

pub returns-in_default-clause-refused : goal.returns-in_default-clause-refused
returns-in_default-clause-refused g c =
    let end = ended_feed g (goal.at.returns-in_default-clause-refused g c).In_default in
    rw (← c.self.view_is) (same_feed _ _ _ end.2)

pub returns-in_err-demand : goal.returns-in_err-demand
returns-in_err-demand g c =
    let p = c.self.inside in
    let out = err_from_is_err_and c.from_residual.result c.from_residual.ensures.1 in
    let end = told_fault _ _ _ (sym c.in_err-demand.was ∙ c.next.ensures.told) in
    let same = c.next.ensures.ended end.0 in
    let answered : read_answer c.from_residual.result ≡ refused_call (feed_faulty c.in_err-demand.field-0.0) = ap read_answer (out.1 ∙ ap Err out.2) in
    rw (← c.self.view_is) (record {
      follows = λ all es tr.
          stays_so _ all es _ tr read_call _ _ _ answered (ap (λ f. record { window = window p.rows; left = forecast g.F.Feed f }) same)
          (faulty _ all es _ tr (unproved g (goal.at.returns-in_err-demand g c).Else-is_some) (omega (arith, c.len.ensures)) (omega (arith, c.read.ensures)) end.0 _ end.1);
      onward = rw out.1 tt;
      model = refl;
      proved = c.self.inside.right;
      refused = rw out.1 (same_feed _ _ _ same);
    })

pub returns-clause-follows : goal.returns-clause-follows
returns-clause-follows g c =
    let p = c.self.inside in
    let next = told_some (g.F.Feed.demands p.feed) (g.F.Feed.ending p.feed) _ (sym (ap Ok c.in-Some.is) ∙ sym c.in_ok-demand.was ∙ c.next.ensures.told) in
    rw (← c.self.view_is)
    (λ all es tr.
    goes_on _ all es _ tr (g.met.M.CostModel.lawful p.model) (unproved g (goal.at.returns-clause-follows g c).Else-is_some)
    (omega (arith, c.len.ensures)) (omega (arith, c.read.ensures)) _ _ _ _ c.is_some-2.ensures next c.next.ensures.others c.next.ensures.ending c.push.ensures c.proved_span-self-inside.ensures)

pub returns-clause-onward : goal.returns-clause-onward
returns-clause-onward g c = rw (← c.self.view_is) (c.push.ensures.base, grown_reads _ _ c.push.ensures, omega (arith, grown_reads _ _ c.push.ensures, c.read.ensures))
