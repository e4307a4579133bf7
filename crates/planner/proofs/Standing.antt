-- When planners stand at the same place, and when the same is left of them.
use Rattle.std.specs.Coded.{le_prop}
use Rattle.std.proofs.Common.{◌≡◌, ℕ, ◌≤◌, Option, ap, ◌∙◌, subst}
use Rattle.std.proofs.Props.{props}
use Rattle.planner.specs.declared.rows.row.Span.{Span}
use Rattle.planner.specs.Describing.{Window}
use Rattle.planner.specs.Proving.{TellsProved}
use Rattle.planner.specs.Standing.{Standing, Leaving}
use Rattle.planner.specs.Windows.{window}

-- what is told of the lot that is proved can be told in one way only
pub told_prop : (w : Window) (proved : Option Span) → IsProp (TellsProved w proved)
told_prop w proved = Prim.hlevel props

-- a feed as it was leaves a planner where it stood
pub same_feed : {F M : Type 0} (p : Standing F M) (feed : F) (right : TellsProved (window p.rows) p.proved) → feed ≡ p.feed →
    record p { feed = feed; right = right } ≡ p
same_feed p feed right same =
    ap (λ r. record p { feed = feed; right = r }) (told_prop (window p.rows) p.proved right p.right) ∙ ap (λ f. record p { feed = f }) same

-- the same end of the last lot leaves the same
pub same_after : {F M : Type 0} (p : Leaving F M) (after : ℕ) (onward : p.rows.base ≤ after) → after ≡ p.after →
    record p { after = after; onward = onward } ≡ p
same_after p after onward same =
    subst (λ n. (h : p.rows.base ≤ n) → record p { after = after; onward = onward } ≡ record p { after = n; onward = h }) same
    (λ h. ap (λ k. record p { after = after; onward = k }) (le_prop onward h)) p.onward
