-- The lists that `push` leaves are the window grown by one period.
use Rattle.std.proofs.Common.{◌≡◌, ℕ, suc, ◌+◌, ◌*◌, ◌<◌, ◌≤◌, List, [], ◌∷◌, ◌++◌, length, get_or, take, refl, ap, ◌∙◌, ap₂, arith, take_all}
use lib.Seq.{take-append-le}
use Rattle.std.proofs.lemmas.List.{get_or_append_left, get_or_push, length_push, map-append}
use Rattle.planner.specs.declared.rows.row.Row.{Row}
use Rattle.planner.specs.declared.rows.row.Period.{Period}
use Rattle.planner.specs.Describing.{Window, window_of, rows_of, options_of, row_after, reading, Grown, live_from, raised, own, Cheapest, Chosen}

module _ (w : Window) (K : ℕ → ℕ) (V : ℕ → ℕ → ℕ) (paired : length w.options ≡ length w.rows) (rows : List Row) (options : List ℕ) where
  pub grown_idle : (d x : ℕ) → d ≡ 0 → x ≡ (row_after w (length w.rows)).least + K (suc (reading w)) →
      rows ≡ w.rows ++ (row_after w (length w.rows) ∷ []) → options ≡ w.options ++ (x ∷ []) → Grown K V d w (window_of w.base w.before rows options)
  grown_idle d x none is r o = record {
    base = refl;
    before = refl;
    row = row_after w (length w.rows);
    rows = r;
    paired = omega (arith, ap length o, length_push w.options x);
    older = λ k _ l.
        ap (λ (os : List ℕ). get_or os k 0) o ∙ get_or_append_left w.options (x ∷ []) 0 k (omega arith)
        ∙ omega (arith, free (V (suc (w.base + k)) (suc (reading w))));
    newest = ap (λ (os : List ℕ). get_or os (length w.rows) 0) o ∙ get_or_push w.options x 0 (length w.rows) paired
        ∙ omega (arith, free (V (suc (reading w)) (suc (reading w))));
    demanded = omega arith;
    idle = λ _. (refl, refl);
    busy = λ l. absurd (omega arith);
  }
    where
      free : (v : ℕ) → d * v ≡ 0
      free v = rw none (omega arith)

  pub grown_busy : (d : ℕ) (mid : List ℕ) (row : Row) (place : ℕ) → 1 ≤ d → length mid ≡ length w.rows →
      ((k : ℕ) → live_from w ≤ k → k < length w.rows → get_or mid k 0 ≡ raised V d w k) →
      Chosen K V d w row.least place → row.last ≡ suc (w.base + place) → row.demanded ≡ (row_after w (length w.rows)).demanded + d →
      rows ≡ w.rows ++ (row ∷ []) → options ≡ mid ++ (own K V d w ∷ []) → Grown K V d w (window_of w.base w.before rows options)
  grown_busy d mid row place some long up chosen last demanded r o = record {
    base = refl;
    before = refl;
    row = row;
    rows = r;
    paired = omega (arith, ap length o, length_push mid (own K V d w));
    older = λ k live l. ap (λ (os : List ℕ). get_or os k 0) o ∙ get_or_append_left mid (own K V d w ∷ []) 0 k (omega arith) ∙ up k live l;
    newest = ap (λ (os : List ℕ). get_or os (length w.rows) 0) o ∙ get_or_push mid (own K V d w) 0 (length w.rows) long;
    demanded = demanded;
    idle = λ none. absurd (omega arith);
    busy = λ _. (place, chosen, last);
  }

-- what the walk through the options of a window's periods says of the window
module _ (w : Window) (K : ℕ → ℕ) (V : ℕ → ℕ → ℕ) (d first self : ℕ) (walked : List Period) (same : options_of walked ≡ w.options)
    (long : length walked ≡ length w.rows) (begins : first ≡ live_from w) where
  raised_same : (k : ℕ) → get_or (options_of walked) k 0 + d * V (suc (w.base + k)) (suc (w.base + length walked)) ≡ raised V d w k
  raised_same k = ap₂ ◌+◌ (ap (λ (os : List ℕ). get_or os k 0) same) (ap (λ n. d * V (suc (w.base + k)) (suc (w.base + n))) long)

  pub raised_from : (mid : List ℕ) →
      ((k : ℕ) → first ≤ k → k < length walked → get_or mid k 0 ≡ get_or (options_of walked) k 0 + d * V (suc (w.base + k)) (suc (w.base + length walked))) →
      (k : ℕ) → live_from w ≤ k → k < length w.rows → get_or mid k 0 ≡ raised V d w k
  raised_from mid up k l m = up k (omega arith) (omega arith) ∙ raised_same k

  pub chosen_from : (cost place : ℕ) → self ≡ own K V d w →
      Cheapest (λ k. get_or (options_of walked) k 0 + d * V (suc (w.base + k)) (suc (w.base + length walked))) first (length walked) self cost place →
      Chosen K V d w cost place
  chosen_from cost place is c = record {
    from_first = omega (arith, c.from_first);
    within = omega (arith, c.within);
    is_own = λ at. c.is_own (omega arith) ∙ is;
    is_option = λ l. c.is_option (omega arith) ∙ raised_same place;
    cheapest = λ k l m. omega (arith, c.cheapest k (omega arith) (omega arith), raised_same k);
    no_dearer = omega (arith, c.no_dearer);
    largest = λ k l m. omega (arith, c.largest k l (omega arith), raised_same k);
    largest_own = λ l. omega (arith, c.largest_own (omega arith));
  }

-- a push behind a list that filled its vector
pub pushed_behind : (mid rest : List Period) (n : ℕ) (p : Period) → length mid ≡ n → take n (mid ++ rest) ++ (p ∷ []) ≡ mid ++ (p ∷ [])
pushed_behind mid rest n p long =
    ap (λ (l : List Period). l ++ (p ∷ [])) (take-append-le n mid rest (omega arith) ∙ take_all n mid (omega arith))

-- a period is pushed as its row and its option
pub rows_pushed : (old new : List Period) (p : Period) → new ≡ old ++ (p ∷ []) → rows_of new ≡ rows_of old ++ (p.row ∷ [])
rows_pushed old new p e = ap rows_of e ∙ map-append (λ q. q.row) old (p ∷ [])

pub options_pushed : (old new : List Period) (p : Period) → new ≡ old ++ (p ∷ []) → options_of new ≡ options_of old ++ (p.option ∷ [])
options_pushed old new p e = ap options_of e ∙ map-append (λ q. q.option) old (p ∷ [])
