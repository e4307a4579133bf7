use Rattle.std.proofs.Common.{sym, subst}
use Rattle.planner.specs.Describing.{Sound, window_from}
use Rattle.planner.proofs.Soundness.{sound_empty}
use Rattle.planner.proofs.rows.Rows.new.Goals as goal

pub invariant_of-result-clause-sound : goal.invariant_of-result-clause-sound
invariant_of-result-clause-sound c =
    ∣ subst (λ ps. Sound (window_from 0 (record { demanded = 0; least = 0; last = 0 }) ps)) (sym c.in_ok-with_capacity.ensures.items) sound_empty ∣₁
