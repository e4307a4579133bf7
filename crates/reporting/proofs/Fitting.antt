-- What shows that plans fit: together their lots cost the least cost of their periods, which is bounded, and each lot ends a period of its own.
use Rattle.std.proofs.Common.{◌≡◌, ℕ, zero, suc, ◌+◌, ◌-◌, ◌^◌, ◌<◌, ◌≤◌, List, [], ◌∷◌, map, length, get_or, refl, ap, ◌∙◌, arith, length-append}
use Rattle.std.proofs.lemmas.List.Sums.{sum_by-cons}
use Rattle.theory.specs.Recursion.{Case, Lot, LawfulCosts, case_of, least, lot, plan}
use Rattle.theory.specs.Splittings.{total}
use Rattle.theory.proofs.Plans.{plan_none, plan_lot, plan_ind}
use Rattle.lots.specs.Lots.{Terms}
use Rattle.lots.specs.declared.lot.LotKind.{LotKind}
use Rattle.feeds.specs.Feeding.{Small}
use Rattle.planner.specs.Lots.{handed}
use Rattle.planner.proofs.Soundness.{least_bound}
use Rattle.reporting.specs.Planning.{total_cost}

small_at : (ds : List ℕ) → Small ds → (i : ℕ) → get_or ds i 0 ≤ 1000000
small_at [] s i = omega arith
small_at (d ∷ ds) s zero = s.0
small_at (d ∷ ds) s (suc i) = small_at ds s.1 i

-- what 10,000 periods cost at most is a number of 64 bits
pub least_payable : (K : ℕ → ℕ) (V : ℕ → ℕ → ℕ) (ds : List ℕ) → LawfulCosts K V → Small ds → (t : ℕ) → t ≤ 10000 → least (case_of K V ds) t < 2 ^ 64
least_payable K V ds lawful small t few = omega (arith, few, least_bound (case_of K V ds) lawful (λ i. small_at ds small (i - 1)) t)

-- lots as they are handed out cost what they cost in the plan
pub total_handed : (kind : LotKind) (n : ℕ) (ys : List Lot) → total_cost (map (handed kind n) ys) ≡ total ys
unfolding total
total_handed kind n [] = refl
total_handed kind n (y ∷ ys) = sum_by-cons (λ (z : Terms). z.cost) (handed kind n y) (map (handed kind n) ys) ∙ ap (λ x. y.costs + x) (total_handed kind n ys)

-- a plan has no more lots than periods
pub plan_few : (c : Case) (n : ℕ) → length (plan c n) ≤ n
plan_few c =
    plan_ind c (λ n. length (plan c n) ≤ n)
    (λ n e. rw (plan_none c n e) (omega arith))
    (λ n j e l ih. rw (plan_lot c n j e, length-append (plan c j) (lot c (suc j) n ∷ [])) (omega arith))
