-- What holding costs, as a sum over periods and by the sums that are kept, and that dated costs are lawful.
use Rattle.std.specs.Prelude.{◌≡◌, ℕ, zero, suc, ◌+◌, ◌-◌, ◌*◌, ◌<◌, ◌≤◌, List, [], ◌∷◌, ◌++◌, map, length, get_or, take, None, slice_index_or}
use Rattle.std.proofs.Common.{sym, ap, ◌∙◌, add-suc, mul-suc, mul-zero, mul-le-mul_left, arith}
use Rattle.std.proofs.lemmas.List.{map_more}
use Rattle.theory.specs.Recursion.{LawfulCosts, over}
use Rattle.theory.proofs.Sums.{over_step, over_none, over_part, over_split}
use Rattle.costs.specs.declared.line.CostLine.{CostLine}
use Rattle.costs.specs.Dated.{empty_line, line_at, dated_setup, dated_price, holding_before, lines_fault}
use Rattle.costs.specs.InForce.{fair_at, calm_at, dated_from_1, dates_rise, line_at_lem}

-- n periods after m, at the same cost v each
over_flat : (f : ℕ → ℕ) (v m n : ℕ) → ((q : ℕ) → m < q → q ≤ m + n → f q ≡ v) → over f (suc m) (m + n) ≡ v * n
over_flat f v m zero h = over_none f (suc m) (m + 0) (omega arith) ∙ sym (mul-zero v)
over_flat f v m (suc n) h =
    let s = over_step f (suc m) (m + n) (omega arith) in
    let ih = over_flat f v m n (λ q l u. h q l (omega arith)) in
    let z = h (suc (m + n)) (omega arith) (omega arith) in
    rw (add-suc m n) (omega (arith, s, ih, z, mul-suc v n))

-- n periods after m, at most v each
over_most : (f : ℕ → ℕ) (v m n : ℕ) → ((q : ℕ) → m < q → f q ≤ v) → over f (suc m) (m + n) ≤ v * n
over_most f v m zero h = omega (arith, over_none f (suc m) (m + 0) (omega arith))
over_most f v m (suc n) h =
    let s = over_step f (suc m) (m + n) (omega arith) in
    let ih = over_most f v m n h in
    rw (add-suc m n) (omega (arith, s, ih, h (suc (m + n)) (omega arith), mul-suc v n))

abbrev holding : List CostLine → ℕ → ℕ
holding lines q = (line_at lines q).holding

most_held : (lines : List CostLine) (j i : ℕ) → lines_fault lines ≡ None → 1 ≤ j → j ≤ i → over (holding lines) j (i - 1) ≤ 3000 * (i - j)
most_held lines j i e o l =
    let a : j ≡ suc (j - 1) = omega arith in
    let b : i - 1 ≡ (j - 1) + (i - j) = omega arith in
    let m = over_most (holding lines) 3000 (j - 1) (i - j) (λ q u. (fair_at lines q e (omega arith)).holding_fits) in
    let s : over (holding lines) j (i - 1) ≡ over (holding lines) (suc (j - 1)) ((j - 1) + (i - j)) = ap (λ x. over (holding lines) x (i - 1)) a ∙ ap (over (holding lines) (suc (j - 1))) b in
    omega (arith, m, s)

-- what is held from j until i is what is held before i but not before j
pub held_between :
    (lines : List CostLine) (j i : ℕ) → 1 ≤ j → j ≤ i → holding_before lines i ≡ holding_before lines j + over (λ p. (line_at lines p).holding) j (i - 1)
unfolding holding_before
held_between lines j i o l =
    let a : suc (j - 1) ≡ j = omega arith in
    over_split (holding lines) 1 (j - 1) (i - 1) (omega arith) (omega arith)
    ∙ ap (λ x. over (holding lines) 1 (j - 1) + over (holding lines) x (i - 1)) a

-- while one line is in force, each period adds its holding cost
pub held_on :
    (lines : List CostLine) (k p : ℕ) → lines_fault lines ≡ None → k < length lines → (get_or lines k empty_line).date ≤ p
    → (suc k < length lines → p ≤ (get_or lines (suc k) empty_line).date)
    → holding_before lines p ≡ holding_before lines (get_or lines k empty_line).date + (get_or lines k empty_line).holding * (p - (get_or lines k empty_line).date)
held_on lines k p e w b u =
    let d : ℕ = (get_or lines k empty_line).date in
    let o : 1 ≤ d = dated_from_1 lines k e w in
    let s : suc (d - 1) ≡ d = omega arith in
    let t : p - 1 ≡ (d - 1) + (p - d) = omega arith in
    let flat = over_flat (holding lines) (get_or lines k empty_line).holding (d - 1) (p - d)
    (λ q l m. ap (λ x. x.holding) (line_at_lem lines k q e (record { within = w; begun = omega arith; unended = λ h. omega (arith, u h) }))) in
    held_between lines d p o b
    ∙ ap (λ x. holding_before lines d + x) (ap (λ x. over (holding lines) x (p - 1)) (sym s) ∙ ap (over (holding lines) (suc (d - 1))) t ∙ flat)

-- nothing is held before the first period
pub held_first : (lines : List CostLine) → holding_before lines 1 ≡ 0
unfolding holding_before
held_first lines = over_none (holding lines) 1 0 (omega arith)

-- the line at i comes no sooner than the line before it, which is the line itself where i is 0
pub next_later : (lines : List CostLine) (i : ℕ) → lines_fault lines ≡ None → i < length lines → (get_or lines (i - 1) empty_line).date ≤ (get_or lines i empty_line).date
next_later lines zero e h = omega arith
next_later lines (suc k) e h = let q : suc k - 1 ≡ k = omega arith in rw q (omega (arith, dates_rise lines k e h))

next_comes : (lines : List CostLine) (i : ℕ) → lines_fault lines ≡ None → suc (i - 1) < length lines → (get_or lines i empty_line).date ≤ (get_or lines (suc (i - 1)) empty_line).date
next_comes lines zero e n = omega (arith, dates_rise lines 0 e n)
next_comes lines (suc k) e n = let q : suc (suc k - 1) ≡ suc k = omega arith in rw q (omega arith)

-- what is held before the line at i, from what is held before the line before it
pub held_next :
    (lines : List CostLine) (i : ℕ) (b : CostLine) (s d : ℕ) → lines_fault lines ≡ None → i < length lines → b ≡ slice_index_or lines (i - 1) empty_line
    → s ≡ holding_before lines b.date → d ≡ (get_or lines i empty_line).date - b.date → s + b.holding * d ≡ holding_before lines (get_or lines i empty_line).date
held_next lines i b s d e h u p q =
    let z : CostLine = get_or lines (i - 1) empty_line in
    let x : CostLine = get_or lines i empty_line in
    let v : s ≡ holding_before lines z.date = p ∙ ap (λ y. holding_before lines y.date) u in
    let w : b.holding * d ≡ z.holding * (x.date - z.date) = ap (λ n. b.holding * n) q ∙ ap (λ y. y.holding * (x.date - y.date)) u in
    let up : suc (i - 1) < length lines → x.date ≤ (get_or lines (suc (i - 1)) empty_line).date = λ n. next_comes lines i e n in
    omega (arith, v, w, held_on lines (i - 1) x.date e (omega arith) (next_later lines i e h) up)

-- one sum more
pub summed_more :
    (lines : List CostLine) (hs more : List ℕ) (i s : ℕ) → i < length lines → hs ≡ map (λ x. holding_before lines x.date) (take i lines)
    → more ≡ hs ++ s ∷ [] → s ≡ holding_before lines (get_or lines i empty_line).date → more ≡ map (λ x. holding_before lines x.date) (take (i + 1) lines)
summed_more lines hs more i s h p q e =
    q ∙ ap (λ ns. ns ++ s ∷ []) p ∙ ap (λ n. map (λ x. holding_before lines x.date) (take i lines) ++ n ∷ []) e ∙ sym (map_more (λ x. holding_before lines x.date) lines i empty_line h)

pub held_fits : (lines : List CostLine) (p : ℕ) → lines_fault lines ≡ None → 1 ≤ p → holding_before lines p ≤ 3000 * (p - 1)
unfolding holding_before
held_fits lines p e o = most_held lines 1 p e (omega arith) o

pub dated_lawful : (lines : List CostLine) → lines_fault lines ≡ None → LawfulCosts (dated_setup lines) (dated_price lines)
dated_lawful lines e = record {
  charged = λ j o. (fair_at lines j e o).charged;
  charge_fits = λ j o. (fair_at lines j e o).setup_fits;
  later = λ j i o l.
      omega (arith, calm_at lines j e o, over_split (holding lines) j j (i - 1) (omega arith) (omega arith), over_part (holding lines) j j j o (omega arith) (omega arith));
  price_fits = λ j i o l near.
      omega (arith, (fair_at lines j e o).unit_fits, most_held lines j i e o l, mul-le-mul_left {m = i - j} {n = 255} 3000 near);
}
