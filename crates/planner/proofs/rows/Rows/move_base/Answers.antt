use Rattle.std.proofs.Common.{◌≡◌, ◌-◌, length, vec_items, sym, ap, ◌∙◌, subst, arith, length-drop}
use Rattle.std.specs.Vec.{vec_len}
use mathlib.Core.Logic.{∥∥₁_map}
use Rattle.planner.specs.Describing.{Sound, window_from, moved_to}
use Rattle.planner.specs.Windows.{window}
use Rattle.planner.proofs.Windows.{window_long}
use Rattle.planner.proofs.Moving.{moved_sound, front_freed, base_read}
use Rattle.planner.proofs.rows.Rows.move_base.Goals as goal
use Rattle.planner.proofs.rows.Rows.move_base.Goals.{After-drop-drain}

pub at-self-requires-clause-through : goal.at-self-requires-clause-through
at-self-requires-clause-through c = base_read c.args.self.now c.args.through c.requires.inside

pub drain-requires-clause-in_bounds : goal.drain-requires-clause-in_bounds
drain-requires-clause-in_bounds c = omega (arith, base_read c.args.self.now c.args.through c.requires.inside, window_long c.args.self.now)

-- the window that is left
moved : (c : After-drop-drain) → window_from c.args.through c.at-self.result (vec_items c.drop-drain.new.self.0) ≡ moved_to c.args.through (window c.args.self.now)
moved c =
    front_freed c.args.self.now.base c.args.through c.args.self.now.before c.at-self.result (vec_items c.args.self.now.periods) (vec_items c.drop-drain.new.self.0)
    c.at-self.ensures (c.drop-drain.ensures.items ∙ c.drain.ensures.kept)

-- as many periods are left as were read behind the new base
left : (c : After-drop-drain) → vec_len c.drop-drain.new.self.0 ≡ vec_len c.args.self.now.periods - (c.args.through - c.args.self.now.base)
left c =
    c.drop-drain.new.self.0.ok.0 ∙ ap length (c.drop-drain.ensures.items ∙ c.drain.ensures.kept)
    ∙ length-drop (c.args.through - c.args.self.now.base) (vec_items c.args.self.now.periods) ∙ ap (λ n. n - (c.args.through - c.args.self.now.base)) (sym c.args.self.now.periods.ok.0)

pub invariant_of-self : goal.invariant_of-self
invariant_of-self c =
    let r = c.args.self.now in
    let read = base_read r c.args.through c.requires.inside in
    let long = left (goal.at.invariant_of-self c).After-drop-drain in
    record {
      few = omega (arith, long, read, window_long r, r.few);
      narrow = omega (arith, long, r.narrow);
      room = omega (arith, r.room, c.drop-drain.ensures.capacity, c.drain.ensures.capacity);
      sound = ∥∥₁_map r.sound (λ s. subst Sound (sym (moved (goal.at.invariant_of-self c).After-drop-drain)) (moved_sound (window r) c.args.through c.requires.onward c.requires.inside s));
    }

pub returns : goal.returns
returns c = moved (goal.at.returns c).After-drop-drain
