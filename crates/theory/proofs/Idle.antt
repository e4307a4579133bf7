-- What a period with no demand leaves of the recursion: all of it.
use Rattle.std.proofs.Common.{◌≡◌, ℕ, zero, suc, ◌<◌, ◌≤◌, refl, inl, inr, arith}
use Rattle.std.proofs.lemmas.Bool.{cases_lt}
use Rattle.theory.specs.Recursion.{over, least, last, lot_cost}
use Rattle.theory.specs.Optimality.{NoSetupWithoutDemand, IdlePeriodChangesNothing}
use Rattle.theory.proofs.Sums.{over_none, over_step}
use Rattle.theory.proofs.Laws.{last_le, least_none, least_lot, least_le, least_idle, idle_of_last, last_idle, last_largest, lot_cost_idle, least_goes_on}
use Rattle.theory.proofs.Plans.{lot_filled}

pub no_setup_without_demand_lem : NoSetupWithoutDemand
no_setup_without_demand_lem c w t = (idle_of_last c t, last_idle c w t)

pub idle_period : IdlePeriodChangesNothing
idle_period c w t z = go (last c (suc t)) (last c t) refl refl
  where
    alone : over c.demand_of (suc t) (suc t) ≡ 0
    alone = omega (arith, over_step c.demand_of (suc t) t (omega arith), over_none c.demand_of (suc t) t (omega arith))

    whole : over c.demand_of 1 (suc t) ≡ over c.demand_of 1 t
    whole = omega (arith, over_step c.demand_of 1 t (omega arith))

    same_option : (j : ℕ) → j < t → lot_cost c (suc j) (suc t) ≡ lot_cost c (suc j) t
    same_option j l = lot_cost_idle c (suc j) t (suc t) (omega arith) (omega arith) alone

    go : (a b : ℕ) → last c (suc t) ≡ a → last c t ≡ b → (least c (suc t) ≡ least c t) × (last c (suc t) ≡ last c t)
    go zero b p q =
        let idle : over c.demand_of 1 t ≡ 0 = omega (arith, whole, idle_of_last c (suc t) p) in
        (omega (arith, least_none c (suc t) p, least_idle c t idle), omega (arith, last_idle c w t idle))
    go (suc a) zero p q = absurd (omega (arith, last_idle c w (suc t) (omega (arith, whole, idle_of_last c t q))))
    go (suc a) (suc b) p q =
        elim (cases_lt a t) [
          | inl l ↦
              let bt : b < t = omega (arith, last_le c t) in
              let down : least c (suc t) ≤ least c t = least_goes_on c t (suc t) (omega arith) alone in
              let same : least c (suc t) ≡ least c t =
              omega (arith, least_lot c (suc t) a p, least_le c t a l, same_option a l) in
              let ab : suc a ≤ last c t = last_largest c t a l (omega (arith, least_lot c (suc t) a p, same_option a l)) in
              let ba : suc b ≤ last c (suc t) = last_largest c (suc t) b (omega arith) (omega (arith, least_lot c t b q, same_option b bt)) in
              (same, omega arith)
          | inr l ↦
              let e : a ≡ t = omega (arith, last_le c (suc t)) in
              let f : last c (suc t) ≡ suc t = omega arith in
              absurd (omega (arith, alone, lot_filled c w (suc t) t f))
        ]
