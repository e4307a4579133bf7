-- What one more period does to rows that describe a case.
use Rattle.std.proofs.Common.{◌≡◌, ℕ, zero, suc, ◌+◌, ◌-◌, ◌*◌, ◌<◌, ◌≤◌, length, sym, refl, ap, ◌∙◌, subst, inl, inr, arith}
use Rattle.std.proofs.lemmas.Bool.{cases_lt}
use Rattle.theory.specs.Recursion.{Case, Lawful, least, last, lot_cost}
use Rattle.theory.proofs.Sums.{over_step, over_none}
use Rattle.theory.proofs.Monotone.{monotone}
use Rattle.theory.proofs.Rolling.{window_picks}
use Rattle.theory.proofs.Laws.{idle_of_last, lot_cost_step}
use Rattle.planner.specs.Describing.{Window, row_after, reading, RowOf, Describes, live_from, raised, own, Chosen}

-- the case has in its next period the charge, the prices and the demand that the planner meets there
pub record Meets (c : Case) (t : ℕ) (K : ℕ → ℕ) (V : ℕ → ℕ → ℕ) (d : ℕ) : Type 0 where
  pub setup : c.setup (suc t) ≡ K (suc t)
  pub price : (j : ℕ) → c.price j (suc t) ≡ V j (suc t)
  pub demand : c.demand_of (suc t) ≡ d

-- a lot that begins in the next period costs its setup and what that period asks
own_lot : (c : Case) (t : ℕ) → lot_cost c (suc t) (suc t) ≡ c.setup (suc t) + c.demand_of (suc t) * c.price (suc t) (suc t)
unfolding lot_cost
own_lot c t =
    omega (arith, over_step (λ i. c.demand_of i * c.price (suc t) i) (suc t) t (omega arith), over_none (λ i. c.demand_of i * c.price (suc t) i) (suc t) t (omega arith))

module _ (c : Case) (w : Window) (h : Describes c w) (K : ℕ → ℕ) (V : ℕ → ℕ → ℕ) (d : ℕ) (m : Meets c (reading w) K V d) where
  newest : RowOf c (reading w) (row_after w (length w.rows))
  newest = h.told (length w.rows) (omega arith)

  pub own_is : own K V d w ≡ least c (reading w) + lot_cost c (suc (reading w)) (suc (reading w))
  own_is =
      let at : d * V (suc (reading w)) (suc (reading w)) ≡ c.demand_of (suc (reading w)) * c.price (suc (reading w)) (suc (reading w)) =
      cc (m.demand, m.price (suc (reading w))) in
      omega (arith, newest.least, own_lot c (reading w), m.setup)

  pub raised_is : (k : ℕ) → k < length w.rows → last c (reading w) ≤ suc (w.base + k) →
      raised V d w k ≡ least c (w.base + k) + lot_cost c (suc (w.base + k)) (suc (reading w))
  raised_is k l live =
      let at : d * V (suc (w.base + k)) (suc (reading w)) ≡ c.demand_of (suc (reading w)) * c.price (suc (w.base + k)) (suc (reading w)) =
      cc (m.demand, m.price (suc (w.base + k))) in
      omega (arith, h.live k l live, lot_cost_step c (suc (w.base + k)) (reading w) (omega arith))

  -- the cheapest option from the last setup on is the cheapest of all
  pub chosen_is : Lawful c → 1 ≤ d → (cost place : ℕ) → Chosen K V d w cost place →
      (last c (suc (reading w)) ≡ suc (w.base + place)) × (least c (suc (reading w)) ≡ cost)
  chosen_is lawful some cost place ch =
      let t : ℕ = reading w in
      let from : ℕ = last c t - 1 in
      let risen : last c t ≤ last c (suc t) = monotone c lawful t in
      let live : live_from w ≡ from - w.base = ap (λ x. x - 1 - w.base) newest.last in
      let made : 1 ≤ last c (suc t) = positive (last c (suc t)) refl in
      let is : cost ≡ least c (w.base + place) + lot_cost c (suc (w.base + place)) (suc t) = cost_is in
      let picked = window_picks c from (suc t) (w.base + place) (omega arith) (omega (arith, ch.from_first, h.inside)) (omega (arith, ch.within))
      (λ i a b. omega (arith, is, below i (omega (arith, h.inside)) (omega arith) (omega arith)))
      (λ i a b. omega (arith, is, above i (omega arith) (omega arith))) in
      (picked.0, picked.1 ∙ sym is)
    where
      positive : (n : ℕ) → last c (suc (reading w)) ≡ n → 1 ≤ last c (suc (reading w))
      positive zero e = omega (arith, idle_of_last c (suc (reading w)) e, over_step c.demand_of 1 (reading w) (omega arith), m.demand)
      positive (suc n) e = omega arith

      enters : live_from w ≡ last c (reading w) - 1 - w.base
      enters = ap (λ x. x - 1 - w.base) newest.last

      is_live : (k : ℕ) → live_from w ≤ k → last c (reading w) ≤ suc (w.base + k)
      is_live k l = omega (arith, enters)

      cost_is : cost ≡ least c (w.base + place) + lot_cost c (suc (w.base + place)) (suc (reading w))
      cost_is = elim (cases_lt place (length w.rows)) [
        | inl l ↦ ch.is_option l ∙ raised_is place l (is_live place ch.from_first)
        | inr l ↦
            let e : place ≡ length w.rows = omega (arith, ch.within) in
            ch.is_own e ∙ own_is ∙ ap (λ k. least c (w.base + k) + lot_cost c (suc (w.base + k)) (suc (reading w))) (sym e)
      ]

      below : (i : ℕ) → w.base ≤ i → last c (reading w) ≤ suc i → i < suc (reading w) → cost ≤ least c i + lot_cost c (suc i) (suc (reading w))
      below i b l u = elim (cases_lt i (reading w)) [
        | inl s ↦
            let e : w.base + (i - w.base) ≡ i = omega arith in
            let r = raised_is (i - w.base) (omega arith) (omega arith) in
            let x = ch.cheapest (i - w.base) (omega (arith, enters)) (omega arith) in
            subst (λ n. cost ≤ least c n + lot_cost c (suc n) (suc (reading w))) e (omega (arith, r, x))
        | inr s ↦
            let e : reading w ≡ i = omega arith in
            subst (λ n. cost ≤ least c n + lot_cost c (suc n) (suc (reading w))) e (omega (arith, own_is, ch.no_dearer))
      ]

      above : (i : ℕ) → w.base + place < i → i < suc (reading w) → cost < least c i + lot_cost c (suc i) (suc (reading w))
      above i l u = elim (cases_lt i (reading w)) [
        | inl s ↦
            let e : w.base + (i - w.base) ≡ i = omega arith in
            let r = raised_is (i - w.base) (omega arith) (is_live (i - w.base) (omega (arith, ch.from_first))) in
            let x = ch.largest (i - w.base) (omega arith) (omega arith) in
            subst (λ n. cost < least c n + lot_cost c (suc n) (suc (reading w))) e (omega (arith, r, x))
        | inr s ↦
            let e : reading w ≡ i = omega arith in
            subst (λ n. cost < least c n + lot_cost c (suc n) (suc (reading w))) e (omega (arith, own_is, ch.largest_own (omega arith)))
      ]
