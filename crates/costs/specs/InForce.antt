-- The line in force in a period, among lines that make a model.
use Rattle.std.specs.Prelude.{◌≡◌, ℕ, zero, suc, ◌+◌, ◌<◌, ◌≤◌, true, false, ◌||◌, List, [], ◌∷◌, length, get_or, None, Option, ◌==◌, nat_le, nat_lt, slice_index_or, refl}
use Rattle.std.proofs.Common.{◌∙◌, inl, inr, arith}
use Rattle.std.proofs.lemmas.Bool.{le-leb, lt-leb, ltb-false, eqb-true, cases_lt, and_parts, or_parts, cond-true, cond-false, cond_both}
use Rattle.lots.specs.declared.dated.FirstDate.TheVariants.{Exactly}
use Rattle.lots.specs.Dated.{rises_behind, earned_first}
use Rattle.lots.proofs.Lines.{passed, or_none, some_or_none, mapped_none, rises_past, unearned_parts}
use Rattle.costs.specs.declared.fault.CostFault.{CostFault}
use Rattle.costs.specs.declared.fault.CostFault.TheVariants.{Setup, Unit, Holding}
use Rattle.costs.specs.declared.line.CostLine.{CostLine}
use Rattle.costs.specs.declared.lines.DatedCostsFault.TheVariants.{Lines, Speculation}
use Rattle.costs.specs.Constant.{cost_fault}
use Rattle.costs.specs.Dated.{latest, empty_line, line_at, jumps_behind, line_fault, lines_fault, InForce}

abbrev date : CostLine → ℕ
date x = x.date

abbrev earned : CostLine → Option CostFault
earned x = cost_fault x.setup x.unit x.holding

-- a line whose own numbers are in bounds
pub record Fair (x : CostLine) : Type 0 where
  pub charged : 1 ≤ x.setup
  pub setup_fits : x.setup ≤ 1000000000
  pub unit_fits : x.unit ≤ 100000
  pub holding_fits : x.holding ≤ 3000

fair : (x : CostLine) → earned x ≡ None → Fair x
fair x e =
    let p = some_or_none (nat_lt x.setup 1 || nat_lt 1000000000 x.setup) Setup _ e in
    let q = some_or_none (nat_lt 100000 x.unit) Unit _ p.1 in
    let r = some_or_none (nat_lt 3000 x.holding) Holding None q.1 in
    let s = or_parts (nat_lt x.setup 1) (nat_lt 1000000000 x.setup) p.0 in
    record {
      charged = ltb-false x.setup 1 s.0;
      setup_fits = ltb-false 1000000000 x.setup s.1;
      unit_fits = ltb-false 100000 x.unit q.0;
      holding_fits = ltb-false 3000 x.holding r.0;
    }

-- the lines x and xs make a model
pub record Sound (x : CostLine) (xs : List CostLine) : Type 0 where
  pub first : x.date ≡ 1
  pub rising : rises_behind date x.date xs ≡ true
  pub unearned : earned_first earned (x ∷ xs) ≡ None
  pub calm : jumps_behind x xs ≡ false
  pub few : length (x ∷ xs) ≤ 64

pub sound : (x : CostLine) (xs : List CostLine) → lines_fault (x ∷ xs) ≡ None → Sound x xs
unfolding lines_fault
sound x xs e =
    let p = or_none _ _ e in
    let q = passed date earned 1 64 (Exactly 1) (x ∷ xs) (mapped_none Lines (line_fault (x ∷ xs)) p.0) in
    let d = and_parts (x.date == 1) (rises_behind date x.date xs) q.dates in
    record {
      first = eqb-true x.date 1 d.0;
      rising = d.1;
      unearned = q.unearned;
      calm = (some_or_none (jumps_behind x xs) Speculation None p.1).0;
      few = q.few;
    }

pub none_refused : lines_fault [] ≡ None → ⊥
unfolding lines_fault
none_refused e = let z : ◌≡◌ {A = ℕ} 0 1 = cc in omega arith

latest_in : (x y : CostLine) (ys : List CostLine) (p : ℕ) → y.date ≤ p → latest x (y ∷ ys) p ≡ latest y ys p
latest_in x y ys p h = cond-true (nat_le y.date p) (latest y ys p) x (le-leb y.date p h)

-- while the next line's date has not come, x stays
latest_stays : (x : CostLine) (xs : List CostLine) (p : ℕ) → (1 ≤ length xs → p < (get_or xs 0 empty_line).date) → latest x xs p ≡ x
latest_stays x [] p h = refl
latest_stays x (y ∷ ys) p h = cond-false (nat_le y.date p) (latest y ys p) x (lt-leb y.date p (h (omega arith)))

first_least : (x : CostLine) (xs : List CostLine) (k : ℕ) → rises_behind date x.date xs ≡ true → k < length (x ∷ xs) → x.date ≤ (get_or (x ∷ xs) k empty_line).date
first_least x xs zero r h = omega arith
first_least x xs (suc k) r h = omega (arith, rises_past date x.date xs empty_line k r (omega arith))

rise_next : (x : CostLine) (xs : List CostLine) (k : ℕ) → rises_behind date x.date xs ≡ true → k < length xs → (get_or (x ∷ xs) k empty_line).date < (get_or xs k empty_line).date
rise_next x xs zero r h = rises_past date x.date xs empty_line 0 r h
rise_next x [] (suc k) r h = absurd (omega arith)
rise_next x (y ∷ ys) (suc k) r h = rise_next y ys k (and_parts (nat_lt x.date y.date) (rises_behind date y.date ys) r).1 (omega arith)

latest_at : (x : CostLine) (xs : List CostLine) (k p : ℕ) → rises_behind date x.date xs ≡ true → InForce (x ∷ xs) k p → latest x xs p ≡ slice_index_or (x ∷ xs) k empty_line
latest_at x xs zero p r f = latest_stays x xs p (λ h. f.unended (omega arith))
latest_at x [] (suc k) p r f = absurd (omega (arith, f.within))
latest_at x (y ∷ ys) (suc k) p r f =
    let q = (and_parts (nat_lt x.date y.date) (rises_behind date y.date ys) r).1 in
    let w : k < length (y ∷ ys) = omega (arith, f.within) in
    latest_in x y ys p (omega (arith, f.begun, first_least y ys k q w))
    ∙ latest_at y ys k p q (record { within = w; begun = f.begun; unended = λ h. f.unended (omega arith) })

-- from one period to the next the unit cost rises by at most the holding cost
latest_calm :
    (x : CostLine) (xs : List CostLine) (p : ℕ) → rises_behind date x.date xs ≡ true → jumps_behind x xs ≡ false → x.date ≤ p
    → (latest x xs (suc p)).unit ≤ (latest x xs p).unit + (latest x xs p).holding
latest_calm x [] p r j h = omega arith
latest_calm x (y ∷ ys) p r j h =
    let q = (and_parts (nat_lt x.date y.date) (rises_behind date y.date ys) r).1 in
    let c = or_parts (nat_lt (x.unit + x.holding) y.unit) (jumps_behind y ys) j in
    elim (cases_lt p y.date) [
      | inr l ↦
          let a = latest_in x y ys (suc p) (omega arith) in
          let b = latest_in x y ys p l in
          rw (a, b) (latest_calm y ys p q c.1 l)
      | inl l ↦
          let b = latest_stays x (y ∷ ys) p (λ _. l) in
          elim (cases_lt (suc p) y.date) [
            | inl m ↦ let a = latest_stays x (y ∷ ys) (suc p) (λ _. m) in rw (a, b) (omega arith)
            | inr m ↦
                let a = latest_in x y ys (suc p) m ∙ latest_stays y ys (suc p) (λ o. omega (arith, rises_past date y.date ys empty_line 0 q o)) in
                rw (a, b) (ltb-false (x.unit + x.holding) y.unit c.0)
          ]
    ]

latest_unearned : (x : CostLine) (xs : List CostLine) (p : ℕ) → earned_first earned (x ∷ xs) ≡ None → earned (latest x xs p) ≡ None
latest_unearned x [] p e = (unearned_parts earned x [] e).0
latest_unearned x (y ∷ ys) p e =
    let q = unearned_parts earned x (y ∷ ys) e in
    cond_both (nat_le y.date p) (latest y ys p) x (λ z. earned z ≡ None) (λ _. latest_unearned y ys p q.1) (λ _. q.0)

at_unearned : (xs : List CostLine) (k : ℕ) → earned_first earned xs ≡ None → k < length xs → earned (slice_index_or xs k empty_line) ≡ None
at_unearned [] k e h = absurd (omega arith)
at_unearned (x ∷ xs) zero e h = (unearned_parts earned x xs e).0
at_unearned (x ∷ xs) (suc k) e h = at_unearned xs k (unearned_parts earned x xs e).1 (omega arith)

line_is : (x : CostLine) (xs : List CostLine) (p : ℕ) → Sound x xs → 1 ≤ p → line_at (x ∷ xs) p ≡ latest x xs p
unfolding line_at
line_is x xs p s h = latest_in empty_line x xs p (omega (arith, s.first))

-- what holds of lines that make a model

pub fair_at : (lines : List CostLine) (p : ℕ) → lines_fault lines ≡ None → 1 ≤ p → Fair (line_at lines p)
fair_at [] p e h = absurd (none_refused e)
fair_at (x ∷ xs) p e h =
    let s = sound x xs e in rw (line_is x xs p s h) (fair (latest x xs p) (latest_unearned x xs p s.unearned))

pub fair_line : (lines : List CostLine) (k : ℕ) → lines_fault lines ≡ None → k < length lines → Fair (slice_index_or lines k empty_line)
fair_line [] k e h = absurd (omega arith)
fair_line (x ∷ xs) k e h = fair (slice_index_or (x ∷ xs) k empty_line) (at_unearned (x ∷ xs) k (sound x xs e).unearned h)

pub calm_at : (lines : List CostLine) (p : ℕ) → lines_fault lines ≡ None → 1 ≤ p → (line_at lines (suc p)).unit ≤ (line_at lines p).unit + (line_at lines p).holding
calm_at [] p e h = absurd (none_refused e)
calm_at (x ∷ xs) p e h =
    let s = sound x xs e in
    rw (line_is x xs p s h, line_is x xs (suc p) s (omega arith)) (latest_calm x xs p s.rising s.calm (omega (arith, s.first)))

pub first_dated : (lines : List CostLine) → lines_fault lines ≡ None → (1 ≤ length lines) × (length lines ≤ 64) × ((get_or lines 0 empty_line).date ≡ 1)
first_dated [] e = absurd (none_refused e)
first_dated (x ∷ xs) e = let s = sound x xs e in (omega arith, s.few, s.first)

pub dated_from_1 : (lines : List CostLine) (k : ℕ) → lines_fault lines ≡ None → k < length lines → 1 ≤ (get_or lines k empty_line).date
dated_from_1 [] k e h = absurd (omega arith)
dated_from_1 (x ∷ xs) k e h = let s = sound x xs e in omega (arith, s.first, first_least x xs k s.rising h)

pub line_at_lem : (lines : List CostLine) (k p : ℕ) → lines_fault lines ≡ None → InForce lines k p → line_at lines p ≡ slice_index_or lines k empty_line
line_at_lem [] k p e f = absurd (none_refused e)
line_at_lem (x ∷ xs) k p e f =
    let s = sound x xs e in
    line_is x xs p s (omega (arith, s.first, f.begun, first_least x xs k s.rising f.within)) ∙ latest_at x xs k p s.rising f

pub dates_rise : (lines : List CostLine) (k : ℕ) → lines_fault lines ≡ None → suc k < length lines → (get_or lines k empty_line).date < (get_or lines (suc k) empty_line).date
dates_rise [] k e h = absurd (none_refused e)
dates_rise (x ∷ xs) k e h = rise_next x xs k (sound x xs e).rising (omega arith)
