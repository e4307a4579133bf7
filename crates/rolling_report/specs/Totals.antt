-- What the lots of a series cost together.
use Rattle.std.proofs.Common.{◌≡◌, ℕ, ◌+◌, List, [], ◌∷◌, map, sym, ap, ◌∙◌, refl}
use Rattle.std.proofs.lemmas.List.Sums.{sum_by-cons}
use Rattle.theory.specs.Endings.{Ending}
use Rattle.theory.specs.Recursion.{Case, LawfulCosts, case_of, least, plan}
use Rattle.theory.specs.Regeneration.{after}
use Rattle.theory.specs.Series.{Handed, Entry, Ran, periods_read, taken, lots, base}
use Rattle.theory.specs.Splittings.{total}
use Rattle.theory.proofs.Plans.{plan_total, total_append}
use Rattle.theory.proofs.Runs.{begins_plan}
use Rattle.lots.specs.Lots.{Terms}
use Rattle.planner.specs.Rolling.{frozen_terms}
use Rattle.reporting.specs.Planning.{total_cost}

pub total_frozen : (hs : List Handed) → total_cost (map frozen_terms hs) ≡ total (lots hs)
unfolding total
total_frozen [] = refl
total_frozen (h ∷ hs) = sum_by-cons (λ (z : Terms). z.cost) (frozen_terms h) (map frozen_terms hs) ∙ ap (λ x. h.lot.costs + x) (total_frozen hs)

-- the lots taken in a series and the rest of the plan cost its least cost
pub taken_total : {F : Type 0} (K : ℕ → ℕ) (V : ℕ → ℕ → ℕ) (ds : List ℕ) (ending : Ending F) (es : List (Entry F)) → LawfulCosts K V → Ran K V ds ending es →
    total (lots (taken es)) + total (after (base es) (plan (case_of K V ds) (periods_read es))) ≡ least (case_of K V ds) (periods_read es)
taken_total K V ds ending es lawful ran =
    let c : Case = case_of K V ds in
    let t : ℕ = periods_read es in
    sym (total_append (lots (taken es)) (after (base es) (plan c t))) ∙ ap total (sym (begins_plan K V ds ending es lawful ran)) ∙ plan_total c t
