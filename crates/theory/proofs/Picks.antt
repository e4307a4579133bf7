-- The largest place at which a function is least.
use Rattle.std.proofs.Common.{◌≡◌, ℕ, zero, suc, ◌<◌, ◌≤◌, ◌⊎◌, sym, refl, ap, ◌∙◌, inl, inr, arith}
use Rattle.std.proofs.lemmas.Bool.{le-leb, lt-leb, cases_lt}
use Rattle.theory.specs.Recursion.{pick}

pick_takes : (o : ℕ → ℕ) (s n : ℕ) → o (suc n) ≤ o (pick o s n) → pick o s (suc n) ≡ suc n
unfolding pick
pick_takes o s n l = rw (le-leb (o (suc n)) (o (pick o s n)) l)

pick_keeps : (o : ℕ → ℕ) (s n : ℕ) → o (pick o s n) < o (suc n) → pick o s (suc n) ≡ pick o s n
unfolding pick
pick_keeps o s n l = rw (lt-leb (o (suc n)) (o (pick o s n)) l)

pick_none : (o : ℕ → ℕ) (s : ℕ) → pick o s 0 ≡ s
unfolding pick
pick_none o s = refl

-- it is s or one of 1 through n
pub pick_in : (o : ℕ → ℕ) (s n : ℕ) → (pick o s n ≡ s) ⊎ ((1 ≤ pick o s n) × (pick o s n ≤ n))
pick_in o s zero = inl (pick_none o s)
pick_in o s (suc n) =
    elim (cases_lt (o (pick o s n)) (o (suc n))) [
      | inl l ↦
          rw (pick_keeps o s n l)
          elim (pick_in o s n) [ inl e ↦ inl e | inr e ↦ inr (e.0, omega arith) ]
      | inr l ↦ rw (pick_takes o s n l) (inr (omega arith, omega arith))
    ]

-- it is least
pub pick_least_first : (o : ℕ → ℕ) (s n : ℕ) → o (pick o s n) ≤ o s
pick_least_first o s zero = rw (pick_none o s) (omega arith)
pick_least_first o s (suc n) =
    elim (cases_lt (o (pick o s n)) (o (suc n))) [
      | inl l ↦ rw (pick_keeps o s n l) (pick_least_first o s n)
      | inr l ↦ rw (pick_takes o s n l) (omega (arith, pick_least_first o s n))
    ]

pub pick_least : (o : ℕ → ℕ) (s n j : ℕ) → 1 ≤ j → j ≤ n → o (pick o s n) ≤ o j
pick_least o s zero j p q = omega arith
pick_least o s (suc n) j p q =
    elim (cases_lt j (suc n)) [
      | inl k ↦
          let ih : o (pick o s n) ≤ o j = pick_least o s n j p (omega arith) in
          elim (cases_lt (o (pick o s n)) (o (suc n))) [
            | inl l ↦ rw (pick_keeps o s n l) ih
            | inr l ↦ rw (pick_takes o s n l) (omega arith)
          ]
      | inr k ↦
          let e : j ≡ suc n = omega arith in
          rw e
          elim (cases_lt (o (pick o s n)) (o (suc n))) [
            | inl l ↦ rw (pick_keeps o s n l) (omega arith)
            | inr l ↦ rw (pick_takes o s n l) (omega arith)
          ]
    ]

-- it is the largest of those
pub pick_largest : (o : ℕ → ℕ) (s n j : ℕ) → 1 ≤ j → j ≤ n → o j ≤ o (pick o s n) → j ≤ pick o s n
pick_largest o s zero j p q h = omega arith
pick_largest o s (suc n) j p q h =
    elim (cases_lt (o (pick o s n)) (o (suc n))) [
      | inl l ↦
          let k : o j ≤ o (pick o s n) = rw (pick_keeps o s n l) at h in
          rw (pick_keeps o s n l)
          elim (cases_lt j (suc n)) [
            | inl m ↦ pick_largest o s n j p (omega arith) k
            | inr m ↦
                let e : j ≡ suc n = omega arith in
                let z : o (suc n) ≤ o (pick o s n) = rw e at k in
                omega arith
          ]
      | inr l ↦ rw (pick_takes o s n l) q
    ]

-- it looks at o at s and at 1 through n alone
pub pick_ext : (o p : ℕ → ℕ) (s n : ℕ) → o s ≡ p s → ((j : ℕ) → 1 ≤ j → j ≤ n → o j ≡ p j) → pick o s n ≡ pick p s n
pick_ext o p s zero e h = pick_none o s ∙ sym (pick_none p s)
pick_ext o p s (suc n) e h =
    let ih : pick o s n ≡ pick p s n = pick_ext o p s n e (λ j a b. h j a (omega arith)) in
    let same : o (pick o s n) ≡ p (pick o s n) =
    elim (pick_in o s n) [
      | inl q ↦ rw q e
      | inr q ↦ h (pick o s n) q.0 (omega arith)
    ] in
    let same' : o (pick o s n) ≡ p (pick p s n) = same ∙ ap p ih in
    let top : o (suc n) ≡ p (suc n) = h (suc n) (omega arith) (omega arith) in
    elim (cases_lt (o (pick o s n)) (o (suc n))) [
      | inl l ↦ pick_keeps o s n l ∙ (ih ∙ sym (pick_keeps p s n (omega arith)))
      | inr l ↦ pick_takes o s n l ∙ sym (pick_takes p s n (omega arith))
    ]
