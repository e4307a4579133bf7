-- The test of the regeneration set, on the spans that the rows tell.
use Rattle.std.proofs.Common.{◌≡◌, ℕ, suc, ◌+◌, ◌-◌, ◌<◌, ◌≤◌, Bool, true, false, List, length, Some, None, Option, sym, refl, ap, ◌∙◌, subst, inl, inr, arith}
use Rattle.std.specs.Bool.{MatchBool, then_some}
use Rattle.std.specs.List.{range_with_len, AllWithin, HoldsAt}
use Rattle.std.proofs.lemmas.List.FromFn.{length-range_with_len, get_or-range_with_len}
use Rattle.std.specs.Option.{option_map}
use Rattle.std.proofs.lemmas.Bool.{cases_lt}
use Rattle.theory.specs.Recursion.{Case, last, Lot, lot, plan}
use Rattle.theory.specs.Regeneration.{next, proves, Proved}
use Rattle.theory.proofs.Laws.{last_le}
use Rattle.theory.proofs.Proving.{proves_sound, proves_complete}
use Rattle.planner.specs.declared.rows.row.Span.{Span}
use Rattle.planner.specs.Lots.{span_of}
use Rattle.planner.proofs.Backward.{next_lot}

-- nothing is proved where no lot can be
none_from : (c : Case) (b t : ℕ) → ((y : Lot) → Proved c b t y → ⊥) → None ≡ option_map span_of (proves c b t)
none_from c b t never = go (proves c b t) refl
  where
    go : (o : Option Lot) → proves c b t ≡ o → None ≡ option_map span_of (proves c b t)
    go None e = sym (ap (option_map span_of) e)
    go (Some y) e = absurd (never y (proves_sound c b t y e))

-- while nothing is set up
pub unproved_idle : (c : Case) (b t : ℕ) → last c t ≡ 0 → None ≡ option_map span_of (proves c b t)
unproved_idle c b t idle = none_from c b t (λ y p. omega (arith, p.some))

-- where a horizon of the set has another span next than the whole
unproved_apart : (c : Case) (b t h : ℕ) (s : Span) → last c t ≤ suc h → h ≤ t → Some s ≡ option_map span_of (next b (plan c t)) →
    (option_map span_of (next b (plan c h)) ≡ Some s → ⊥) → None ≡ option_map span_of (proves c b t)
unproved_apart c b t h s from upto whole apart =
    none_from c b t (λ y p.
    apart (ap (option_map span_of) (p.all h from upto) ∙ sym (ap (option_map span_of) (p.all t (omega (arith, last_le c t)) (omega arith))) ∙ sym whole))

-- where the whole has none
pub unproved_none : (c : Case) (b t : ℕ) → None ≡ option_map span_of (next b (plan c t)) → None ≡ option_map span_of (proves c b t)
unproved_none c b t none =
    none_from c b t (λ y p.
    let some : None ≡ Some (span_of y) = none ∙ ap (option_map span_of) (p.all t (omega (arith, last_le c t)) (omega arith)) in
    let z : ◌≡◌ {A = ℕ} 0 1 = cc in
    omega arith)

-- where every horizon of the set has the same span
proved_by : (c : Case) (b t : ℕ) (s : Span) → 1 ≤ last c t → Some s ≡ option_map span_of (next b (plan c t)) →
    ((h : ℕ) → last c t ≤ suc h → h < t → Some s ≡ option_map span_of (next b (plan c h))) → Some s ≡ option_map span_of (proves c b t)
proved_by c b t s some whole all =
    let here = next_lot c b t s whole in
    let y : Lot = lot c s.from s.through in
    let each : (h : ℕ) → last c t ≤ suc h → h ≤ t → next b (plan c h) ≡ Some y =
    λ h from upto. elim (cases_lt h t) [
      | inl before ↦ let there = next_lot c b h s (all h from before) in there.1 ∙ ap Some there.2
      | inr end ↦ let e : h ≡ t = omega arith in ap (λ k. next b (plan c k)) e ∙ here.1 ∙ ap Some here.2
    ] in
    let found : proves c b t ≡ Some y = proves_complete c b t y (record { some = some; all = each }) in
    whole ∙ ap (option_map span_of) (here.1 ∙ ap Some here.2) ∙ sym (ap (option_map span_of) found)

-- where the spans of all horizons of the set but the whole were compared with the whole's
pub proved_if : (c : Case) (b t l : ℕ) (s : Span) (same : Bool) → l ≡ last c t → 1 ≤ l → Some s ≡ option_map span_of (next b (plan c t)) →
    (let before : List ℕ = range_with_len (l - 1) (t - (l - 1)) in
    MatchBool same (AllWithin (λ h. option_map span_of (next b (plan c h)) ≡ Some s) before 0 (length before))
    ((k : ℕ) × (k < length before) × HoldsAt (λ h. option_map span_of (next b (plan c h)) ≡ Some s → ⊥) before k)) →
    then_some same s ≡ option_map span_of (proves c b t)
proved_if c b t l s true is some whole all =
    let n : ℕ = t - (l - 1) in
    let at : (k : ℕ) → k < n → Some s ≡ option_map span_of (next b (plan c (l - 1 + k))) =
    λ k m. sym (subst (λ h. option_map span_of (next b (plan c h)) ≡ Some s) (get_or-range_with_len (l - 1) n k 0 m)
    (all k 0 (omega arith) (omega (arith, length-range_with_len (l - 1) n)))) in
    proved_by c b t s (omega arith) whole (λ h from before.
    let there : l - 1 + (h - (l - 1)) ≡ h = omega arith in
    subst (λ i. Some s ≡ option_map span_of (next b (plan c i))) there (at (h - (l - 1)) (omega arith)))
proved_if c b t l s false is some whole apart =
    let n : ℕ = t - (l - 1) in
    let k : ℕ = apart.0 in
    let within : k < n = omega (arith, apart.1, length-range_with_len (l - 1) n) in
    let there = get_or-range_with_len (l - 1) n k 0 within in
    unproved_apart c b t (l - 1 + k) s (omega arith) (omega arith) whole
    (subst (λ h. option_map span_of (next b (plan c h)) ≡ Some s → ⊥) there (apart.2 0))
