use Rattle.std.proofs.Common.{◌≡◌, suc, ◌+◌, ◌-◌, ◌*◌, ◌≤◌, [], ◌∷◌, ◌++◌, length, get_or, vec_items, sym, ap, ◌∙◌, ap₂, arith}
use mathlib.Core.Logic.{∥∥₁_map}
use Rattle.planner.specs.declared.rows.row.Row.{Row}
use Rattle.planner.specs.Describing.{Window, window_from, row_after, reading, own, rows_of, options_of, live_from, Grown}
use Rattle.planner.specs.Windows.{window}
use Rattle.planner.proofs.Windows.{rows_long, options_long, window_long, window_paired}
use Rattle.planner.proofs.Soundness.{least_fits, demanded_fits, last_fits, base_inside, options_fit, sound_grown}
use Rattle.planner.proofs.Growing.{grown_idle, grown_busy, raised_from, chosen_from, pushed_behind, rows_pushed, options_pushed}
use Rattle.planner.proofs.rows.Rows.push.Given as given
use Rattle.planner.proofs.rows.Rows.push.Goals as goal
use Rattle.planner.proofs.rows.Rows.push.Goals.{After-setup, After-saturating_sub, After-push_reserved, After-push_reserved-2}

-- the newest row, and the charge of the period after it
newest : (g : given.Over) (c : After-setup g) → c.at-newest.result ≡ row_after (window c.args.self.now) (length (window c.args.self.now).rows)
newest g c = c.at-newest.ensures ∙ ap (row_after (window c.args.self.now)) (omega arith)

charge : (g : given.Over) (c : After-setup g) → c.setup.result ≡ g.M.CostModel.K c.args.model.now (suc (reading (window c.args.self.now)))
charge g c = c.setup.ensures.is ∙ ap (g.M.CostModel.K c.args.model.now) (omega arith)

-- so far the sums are small
setup_fits : (g : given.Over) (c : After-setup g) → c.at-newest.result.least + c.setup.result ≤ 10000 * 1001000000000 + 1000000000
setup_fits g c =
    let w : Window = window c.args.self.now in
    omega (arith, c.setup.ensures.fits, ap (λ r. r.least) (newest g c), least_fits w c.args.self.now.sound (length w.rows) (omega arith))

pub overflow_add-setup : goal.overflow_add-setup
overflow_add-setup g c = omega (arith, setup_fits g (goal.at.overflow_add-setup g c).After-setup)

-- a period without demand
grown_by_none : (g : given.Over) (c : After-push_reserved g) →
    Grown (g.M.CostModel.K c.args.model.now) (g.M.CostModel.V c.args.model.now) c.args.demand (window c.args.self.now)
    (window_from c.args.self.now.base c.args.self.now.before (vec_items c.push_reserved.new.self))
grown_by_none g c =
    let w : Window = window c.args.self.now in
    let u = (goal.at.After-push_reserved g c).After-setup in
    let new = newest g u in
    grown_idle w _ _ (window_paired c.args.self.now) _ _ _ _ c.if-demand-eq0.true (omega (arith, charge g u, ap (λ r. r.least) new))
    (rows_pushed _ _ _ c.push_reserved.ensures.items ∙ ap (λ r. w.rows ++ (r ∷ [])) new) (options_pushed _ _ _ c.push_reserved.ensures.items)

pub invariant_of-self : goal.invariant_of-self
invariant_of-self g c =
    let grown = grown_by_none g (goal.at.invariant_of-self g c).After-push_reserved in record {
      few = omega (arith, window_long c.args.self.now);
      narrow = omega (arith, window_long c.args.self.now);
      room = omega arith;
      sound = ∥∥₁_map c.args.self.now.sound (sound_grown _ _ _ _ _ (g.met.M.CostModel.lawful c.args.model.now) c.requires.small grown);
    }

pub overflow_add-own : goal.overflow_add-own
overflow_add-own g c = omega (arith, setup_fits g (goal.at.overflow_add-own g c).After-setup, c.made_in.ensures.fits)

pub overflow_sub-first : goal.overflow_sub-first
overflow_sub-first g c =
    let w : Window = window c.args.self.now in
    omega (arith, ap (λ r. r.last) (newest g (goal.at.overflow_sub-first g c).After-setup), base_inside w c.args.self.now.sound)

-- the walk begins with the option of the last setup
begins : (g : given.Over) (c : After-saturating_sub g) → c.saturating_sub.result - c.args.self.now.base ≡ live_from (window c.args.self.now)
begins g c = ap (λ n. n - c.args.self.now.base) (c.saturating_sub.ensures ∙ ap (λ r. r.last - 1) (newest g (goal.at.After-saturating_sub g c).After-setup))

pub raise-choice-requires-clause-begins : goal.raise-choice-requires-clause-begins
raise-choice-requires-clause-begins g c =
    let r = c.args.self.now in
    omega (
      arith,
      begins g (goal.at.raise-choice-requires-clause-begins g c).After-saturating_sub,
      last_fits (window r) r.sound (length (window r).rows) (omega arith),
      window_long r,
      c.deref_mut.ensures.len,
    )

pub raise-choice-requires-clause-fits : goal.raise-choice-requires-clause-fits
raise-choice-requires-clause-fits g c = λ k l m.
    let r = c.args.self.now in
    let w : Window = window r in
    let first = begins g (goal.at.raise-choice-requires-clause-fits g c).After-saturating_sub in
    let long = window_long r in
    omega (
      arith,
      ap (λ ps. get_or (options_of ps) k 0) c.deref_mut.ensures.value,
      options_fit w r.sound (omega (arith, r.narrow)) (omega (arith, r.few)) k (omega arith) (omega (arith, c.deref_mut.ensures.len)),
    )

pub overflow_add-newest : goal.overflow_add-newest
overflow_add-newest g c =
    let w : Window = window c.args.self.now in
    omega (arith, ap (λ r. r.demanded) (newest g (goal.at.overflow_add-newest g c).After-setup), demanded_fits w c.args.self.now.sound (length w.rows) (omega arith))

-- a period with demand
grown_by_some : (g : given.Over) (c : After-push_reserved-2 g) →
    Grown (g.M.CostModel.K c.args.model.now) (g.M.CostModel.V c.args.model.now) c.args.demand (window c.args.self.now)
    (window_from c.args.self.now.base c.args.self.now.before (vec_items c.push_reserved-2.new.self))
grown_by_some g c =
    let r = c.args.self.now in
    let w : Window = window r in
    let K = g.M.CostModel.K c.args.model.now in
    let V = g.M.CostModel.V c.args.model.now in
    let u = (goal.at.After-push_reserved-2 g c).After-setup in
    let new = newest g u in
    let value = c.deref_mut.ensures.value in
    let same = ap options_of value in
    let long = ap length value ∙ sym (rows_long (vec_items r.periods)) in
    let first = begins g (goal.at.After-push_reserved-2 g c).After-saturating_sub in
    let mid = c.raise-choice.new.periods in
    let kept = c.raise-choice.ensures.rows ∙ ap rows_of value in
    let filled = sym (rows_long mid) ∙ ap length kept in
    let there : c.read-read.result + 1 ≡ suc (reading w) = omega arith in
    let paid : c.at-newest.result.least + c.setup.result + c.made_in.result ≡ own K V c.args.demand w =
    ap₂ ◌+◌ (ap₂ ◌+◌ (ap (λ x. x.least) new) (charge g u)) (c.made_in.ensures.is ∙ ap₂ (λ j i. c.args.demand * V j i) there there) in
    let row : Row = record {
      demanded = c.at-newest.result.demanded + c.from.result;
      least = c.raise-choice.result.cost;
      last = c.args.self.now.base + c.raise-choice.result.place + 1;
    } in
    let items = c.push_reserved-2.ensures.items ∙ pushed_behind mid _ _ _ (filled ∙ window_long r) in
    grown_busy w K V (window_paired r) _ _ c.args.demand (options_of mid) row c.raise-choice.result.place
    (omega (arith, c.if-demand-eq0.false))
    (options_long mid ∙ filled)
    (raised_from w K V _ _ 0 _ same long first _ c.raise-choice.ensures.raised)
    (chosen_from w K V _ _ _ _ same long first _ _ paid c.raise-choice.ensures.chosen)
    (omega arith)
    (omega (arith, ap (λ x. x.demanded) new, c.from.ensures))
    (rows_pushed _ _ _ items ∙ ap (λ rs. rs ++ (row ∷ [])) kept)
    (options_pushed _ _ _ items ∙ ap (λ x. options_of mid ++ (x ∷ [])) paid)

pub invariant_of-self-2 : goal.invariant_of-self-2
invariant_of-self-2 g c =
    let r = c.args.self.now in
    let grown = grown_by_some g (goal.at.invariant_of-self-2 g c).After-push_reserved-2 in
    record {
      few = omega (arith, window_long r);
      narrow = omega (arith, window_long r);
      room = omega (arith, c.push_reserved-2.ensures.capacity);
      sound = ∥∥₁_map r.sound (sound_grown _ _ _ _ _ (g.met.M.CostModel.lawful c.args.model.now) c.requires.small grown);
    }

pub returns : goal.returns
returns g c = grown_by_some g (goal.at.returns g c).After-push_reserved-2
