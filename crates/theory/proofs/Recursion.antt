-- The recursion obeys its characteristic laws, and nothing else does.
use Rattle.std.proofs.Common.{◌≡◌, ℕ, zero, suc, ◌+◌, ◌<◌, ◌≤◌, sym, refl, subst, inl, inr, arith}
use Rattle.std.proofs.lemmas.Bool.{cases_order, cases_lt}
use Rattle.theory.specs.Recursion.{Case, option, lot_cost, least, last}
use Rattle.theory.specs.Optimality.{Offered, RecursionLaws, RecursionObeysItsLaws, LawsFixTheRecursion}
use Rattle.theory.proofs.Laws.{last_le, least_le, least_idle, least_option, last_largest, idle_of_last, alike_self, option_same}

offered_last : (c : Case) (t : ℕ) → Offered c t (last c t)
offered_last c t = go (last c t) refl
  where
    go : (m : ℕ) → last c t ≡ m → Offered c t (last c t)
    go zero e = subst (Offered c t) (sym e) (idle_of_last c t e)
    go (suc j) e = let l : j < t = omega (arith, last_le c t) in subst (Offered c t) (sym e) l

at_most : (c : Case) (t j : ℕ) → Offered c t j → least c t ≤ option c (least c) t j
unfolding option
at_most c t zero o = omega (arith, least_idle c t o)
at_most c t (suc j) o = least_le c t j o

later_dearer : (c : Case) (t j : ℕ) → Offered c t j → last c t < j → least c t < option c (least c) t j
unfolding option
later_dearer c t zero o l = absurd (omega arith)
later_dearer c t (suc j) o l =
    elim (cases_lt (least c t) (least c j + lot_cost c (suc j) t)) [
      | inl k ↦ k
      | inr k ↦ absurd (omega (arith, last_largest c t j o k))
    ]

pub obeys : RecursionObeysItsLaws
obeys c t = record { at_most = at_most c t; offered = offered_last c t; attained = least_option c t; later_dearer = later_dearer c t }

offered_le : (c : Case) (t j : ℕ) → Offered c t j → j ≤ t
offered_le c t zero o = omega arith
offered_le c t (suc j) o = o

-- two pairs that obey the laws, and have the same least costs before t, are the same at t
same_at : (c : Case) (G l H m : ℕ → ℕ) (t : ℕ) → RecursionLaws c G l t → RecursionLaws c H m t → ((i : ℕ) → i < t → G i ≡ H i) →
    (G t ≡ H t) × (l t ≡ m t)
same_at c G l H m t p q before =
    let swap : (j : ℕ) → Offered c t j → option c G t j ≡ option c H t j =
    λ j o. option_same c c G H t j (alike_self c t) before (offered_le c t j o) in
    let a : option c G t (l t) ≡ option c H t (l t) = swap (l t) p.offered in
    let b : option c G t (m t) ≡ option c H t (m t) = swap (m t) q.offered in
    let same : G t ≡ H t = omega (arith, p.attained, q.attained, p.at_most (m t) q.offered, q.at_most (l t) p.offered) in
    elim (cases_order (l t) (m t)) [
      | inl e ↦ (same, e)
      | inr (inl k) ↦ absurd (omega (arith, p.later_dearer (m t) q.offered k, q.attained))
      | inr (inr k) ↦ absurd (omega (arith, q.later_dearer (l t) p.offered k, p.attained))
    ]

module _ (c : Case) (G l : ℕ → ℕ) (laws : (t : ℕ) → RecursionLaws c G l t) where
  same_below : (k t : ℕ) → t < k → G t ≡ least c t
  same_below zero t h = absurd (omega arith)
  same_below (suc k) t h = (same_at c G l (least c) (last c) t (laws t) (obeys c t) (λ i a. same_below k i (omega arith))).0

pub fixed : LawsFixTheRecursion
fixed c G l laws t = same_at c G l (least c) (last c) t (laws t) (obeys c t) (λ i a. same_below c G l laws t i a)
