-- The check of dated lines: what the library's calls answer of their dates and faults, and what is known of lines that pass.
use Rattle.std.proofs.Common.{◌≡◌, ℕ, zero, suc, ◌+◌, ◌<◌, ◌≤◌, Bool, true, false, cond, ◌||◌, ltb, List, [], ◌∷◌, length, get_or, Some, None, Option, IfSome, MatchOption, sym, refl, ap, ◌∙◌, arith}
use Rattle.std.specs.List.{AllAdjacentBelow, IsAllAdjacentAnswer, AllWithin, HoldsAt, slice_get}
use Rattle.std.proofs.lemmas.Bool.{and_from, and_left, and_right, ltb-true, ltb-false, and_parts, or_parts}
use Rattle.std.specs.Option.{option_map, option_or}
use Rattle.lots.specs.declared.dated.FirstDate.{FirstDate}
use Rattle.lots.specs.declared.dated.DatedFault.TheVariants.{Count, Dates, Line}
use Rattle.lots.specs.Dated.{first_allowed, rises_behind, are_dates_right, earned_first, dated_fault}

next : (k : ℕ) → suc k + 1 ≡ suc (k + 1)
next k = omega arith

-- each line dated before the next, as `is_sorted_by` answers it, is rising dates
rises_from : {L : Type 0} (date : L → ℕ) (x : L) (xs : List L) → AllAdjacentBelow (λ a b. true ≡ ltb (date a) (date b)) (x ∷ xs) (length (x ∷ xs)) → rises_behind date (date x) xs ≡ true
rises_from date x [] h = refl
rises_from date x (y ∷ ys) h =
    and_from _ _ (sym (h 0 x (omega arith))) (rises_from date y ys (λ k d l. rw (next k) at (h (suc k) d (omega arith))))

-- one line that is not dated before the next is enough to fail
falls_from : {L : Type 0} (date : L → ℕ) (x : L) (xs : List L) (k : ℕ) → k + 1 < length (x ∷ xs) → ((d : L) → false ≡ ltb (date (get_or (x ∷ xs) k d)) (date (get_or (x ∷ xs) (k + 1) d))) → rises_behind date (date x) xs ≡ false
falls_from date x [] k l e = absurd (omega arith)
falls_from date x (y ∷ ys) zero l e = and_left _ _ (sym (e x))
falls_from date x (y ∷ ys) (suc k) l e = and_right _ _ (falls_from date y ys k (omega arith) (λ d. rw (next k) at (e d)))

pub dates_sorted :
    {L : Type 0} (date : L → ℕ) (first : FirstDate) (xs : List L) (r : Bool) → IfSome (slice_get xs 0) (λ x. first_allowed first (date x) ≡ true)
    → IsAllAdjacentAnswer (λ a b t. t ≡ ltb (date a) (date b)) xs r → r ≡ are_dates_right date first xs
dates_sorted date first [] true a h = refl
dates_sorted date first [] false a h = absurd (omega (arith, h.1))
dates_sorted date first (x ∷ xs) true a h = sym (and_from _ _ a (rises_from date x xs h))
dates_sorted date first (x ∷ xs) false a h = sym (and_right _ _ (falls_from date x xs h.0 h.1 h.2))

module _ {L E : Type 0} (earned : L → Option E) where
  abbrev pub EarnsNothing : L → Type 0
  EarnsNothing x = earned x ≡ None

  earned_none : (xs : List L) → AllWithin EarnsNothing xs 0 (length xs) → earned_first earned xs ≡ None
  earned_none [] h = refl
  earned_none (x ∷ xs) h =
      ap (λ o. option_or o (earned_first earned xs)) (h 0 x (omega arith) (omega arith)) ∙ earned_none xs (λ k d a l. h (suc k) d (omega arith) (omega arith))

  earned_at : (xs : List L) (y : E) (i : ℕ) → i < length xs → HoldsAt (λ x. earned x ≡ Some y) xs i → AllWithin EarnsNothing xs 0 i → earned_first earned xs ≡ Some y
  earned_at [] y i l e n = absurd (omega arith)
  earned_at (x ∷ xs) y zero l e n = ap (λ o. option_or o (earned_first earned xs)) (e x)
  earned_at (x ∷ xs) y (suc i) l e n =
      ap (λ o. option_or o (earned_first earned xs)) (n 0 x (omega arith) (omega arith))
      ∙ earned_at xs y i (omega arith) e (λ k d a b. n (suc k) d (omega arith) (omega arith))

  -- what the first line earns that earns anything, by its place
  abbrev pub IsFound : List L → Option E → Type 0
  IsFound xs r = MatchOption r (AllWithin EarnsNothing xs 0 (length xs)) (λ y. (i : ℕ) × (i < length xs) × HoldsAt (λ x. earned x ≡ Some y) xs i × AllWithin EarnsNothing xs 0 i)

  pub earned_found : (xs : List L) (r : Option E) → IsFound xs r → r ≡ earned_first earned xs
  earned_found xs None h = sym (earned_none xs h)
  earned_found xs (Some y) h = sym (earned_at xs y h.0 h.1 h.2 h.3)

-- rising dates are all later than the one before them
pub rises_past : {L : Type 0} (date : L → ℕ) (last : ℕ) (xs : List L) (z : L) (k : ℕ) → rises_behind date last xs ≡ true → k < length xs → last < date (get_or xs k z)
rises_past date last [] z k r h = absurd (omega arith)
rises_past date last (x ∷ xs) z zero r h = ltb-true last (date x) (and_parts _ _ r).0
rises_past date last (x ∷ xs) z (suc k) r h =
    let p = and_parts (ltb last (date x)) (rises_behind date (date x) xs) r in
    omega (arith, ltb-true last (date x) p.0, rises_past date (date x) xs z k p.1 (omega arith))

-- what two tests in a row, or a test and a value, leave where they find nothing
pub or_none : {E : Type 0} (o p : Option E) → option_or o p ≡ None → (o ≡ None) × (p ≡ None)
or_none None p e = (refl, e)
or_none (Some f) p e = let z : ◌≡◌ {A = ℕ} 0 1 = cc in absurd (omega arith)

pub some_or_none : {E : Type 0} (b : Bool) (f : E) (o : Option E) → cond b (Some f) o ≡ None → (b ≡ false) × (o ≡ None)
some_or_none true f o e = let z : ◌≡◌ {A = ℕ} 0 1 = cc in absurd (omega arith)
some_or_none false f o e = (refl, e)

or_some_none : {E : Type 0} (b : Bool) (o : Option E) (f : E) → cond b o (Some f) ≡ None → (b ≡ true) × (o ≡ None)
or_some_none true o f e = (refl, e)
or_some_none false o f e = let z : ◌≡◌ {A = ℕ} 0 1 = cc in absurd (omega arith)

pub mapped_none : {E F : Type 0} (f : E → F) (o : Option E) → option_map f o ≡ None → o ≡ None
mapped_none f None e = refl
mapped_none f (Some x) e = let z : ◌≡◌ {A = ℕ} 0 1 = cc in absurd (omega arith)

-- where nothing is earned, the first line earns nothing, nor do the others
pub unearned_parts :
    {L E : Type 0} (earned : L → Option E) (x : L) (xs : List L) → earned_first earned (x ∷ xs) ≡ None → (earned x ≡ None) × (earned_first earned xs ≡ None)
unearned_parts earned x xs e = or_none (earned x) (earned_first earned xs) e

-- lines that the check lets pass
pub record Passed {L E : Type 0} (date : L → ℕ) (earned : L → Option E) (fewest most : ℕ) (first : FirstDate) (lines : List L) : Type 0 where
  pub enough : fewest ≤ length lines
  pub few : length lines ≤ most
  pub dates : are_dates_right date first lines ≡ true
  pub unearned : earned_first earned lines ≡ None

pub passed :
    {L E : Type 0} (date : L → ℕ) (earned : L → Option E) (fewest most : ℕ) (first : FirstDate) (lines : List L)
    → dated_fault date earned fewest most first lines ≡ None → Passed date earned fewest most first lines
passed date earned fewest most first lines e =
    let p = some_or_none (ltb (length lines) fewest || ltb most (length lines)) Count _ e in
    let q = or_some_none (are_dates_right date first lines) (option_map Line (earned_first earned lines)) Dates p.1 in
    let n = or_parts (ltb (length lines) fewest) (ltb most (length lines)) p.0 in
    record {
      enough = ltb-false (length lines) fewest n.0;
      few = ltb-false most (length lines) n.1;
      dates = q.0;
      unearned = mapped_none Line (earned_first earned lines) q.1;
    }
