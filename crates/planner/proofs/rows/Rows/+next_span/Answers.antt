use Rattle.std.proofs.Common.{◌≡◌, ℕ, ◌-◌, sym, ap, ◌∙◌, arith}
use Rattle.std.specs.Option.{option_map}
use Rattle.theory.specs.Recursion.{Case, last}
use Rattle.planner.specs.Lots.{span_of}
use Rattle.planner.specs.Describing.{Describes}
use Rattle.planner.specs.Windows.{window}
use Rattle.planner.proofs.Soundness.{last_fits}
use Rattle.planner.proofs.Backward.{next_none, last_is, back_none, back_step}
use Rattle.planner.proofs.rows.Rows.+next_span.Goals as goal
use Rattle.planner.proofs.rows.Rows.+next_span.Goals.{After-at-last}

-- the row that was read tells the horizon's last setup
told : (t : ℕ) (c : After-at-last t) (e : Case) → Describes e (window c.args.self.now) → c.at-last.result.last ≡ last e c.args.horizon
told t c e h = ap (λ r. r.last) c.at-last.ensures ∙ last_is e (window c.args.self.now) h c.args.horizon (omega arith) c.requires.through

pub returns-then-horizon-after-clause-means : goal.returns-then-horizon-after-clause-means
returns-then-horizon-after-clause-means t c = λ e h. sym (ap (option_map span_of) (next_none e c.args.after c.args.horizon c.if-horizon-after.true))

pub returns-then-last-after-clause-means : goal.returns-then-last-after-clause-means
returns-then-last-after-clause-means t c = λ e h. back_none e _ _ _ (told t (goal.at.returns-then-last-after-clause-means t c).After-at-last e h) c.if-last-after.true

pub next_span-requires : goal.next_span-requires
next_span-requires t c =
    let w = window c.args.self.now in
    let fits = last_fits w c.args.self.now.sound (c.args.horizon - c.args.self.now.base) (omega arith) in
    let read = ap (λ r. r.last) c.at-last.ensures in
    (omega (arith, c.decreases), (c.requires.from, omega arith))

pub returns-clause-means : goal.returns-clause-means
returns-clause-means t c = λ e h.
    c.or.ensures ∙ back_step e _ _ _ (told t (goal.at.returns-clause-means t c).After-at-last e h) c.if-last-after.false _ (c.next_span.ensures.means e h)
