-- One step of the walk back through the options.
use Rattle.std.proofs.Common.{◌≡◌, ℕ, suc, ◌<◌, ◌≤◌, List, length, get_or, set, sym, ap, ◌∙◌, inl, inr, arith, length-set, get_or-set_other, get_or-set_same}
use Rattle.std.proofs.Math.Seq.{map-set_same}
use Rattle.std.proofs.lemmas.Bool.{cases_lt}
use Rattle.std.proofs.lemmas.List.{map-set}
use Rattle.planner.specs.declared.rows.row.Period.{Period}
use Rattle.planner.specs.Describing.{Cheapest, rows_of, options_of}
use Rattle.planner.proofs.Windows.{options_long}

-- the options from place on are raised and the best of them is known; those before are as they were, and so are all rows
pub record Walked (option : ℕ → ℕ) (old now : List Period) (place own cost best : ℕ) : Type 0 where
  pub long : length now ≡ length old
  pub within : place ≤ length old
  pub rows : rows_of now ≡ rows_of old
  pub kept : (k : ℕ) → k < place → get_or (options_of now) k 0 ≡ get_or (options_of old) k 0
  pub raised : (k : ℕ) → place ≤ k → k < length old → get_or (options_of now) k 0 ≡ option k
  pub chosen : Cheapest option place (length old) own cost best

-- place p is next; its option is raised to its cost x
module _ (option : ℕ → ℕ) (old now : List Period) (place own cost best p : ℕ) (y d : Period) (next : suc p ≡ place) (at : y.option ≡ option p)
    (same_row : y.row ≡ (get_or now p d).row) (w : Walked option old now place own cost best) where
  step_rows : rows_of (set now p y) ≡ rows_of old
  step_rows = map-set_same (λ q. q.row) now p y d same_row ∙ w.rows

  step_at : (k : ℕ) → get_or (options_of (set now p y)) k 0 ≡ get_or (set (options_of now) p y.option) k 0
  step_at k = ap (λ (os : List ℕ). get_or os k 0) (map-set (λ q. q.option) now p y)

  step_kept : (k : ℕ) → k < p → get_or (options_of (set now p y)) k 0 ≡ get_or (options_of old) k 0
  step_kept k l = step_at k ∙ get_or-set_other (options_of now) p k y.option 0 (λ e. omega arith) ∙ w.kept k (omega arith)

  step_raised : (k : ℕ) → p ≤ k → k < length old → get_or (options_of (set now p y)) k 0 ≡ option k
  step_raised k l m = elim (cases_lt p k) [
    | inl past ↦ step_at k ∙ get_or-set_other (options_of now) p k y.option 0 (λ e. omega arith) ∙ w.raised k (omega arith) m
    | inr here ↦
        let e : k ≡ p = omega arith in
        step_at k ∙ ap (λ i. get_or (set (options_of now) p y.option) i 0) e
        ∙ get_or-set_same (options_of now) p y.option 0 (omega (arith, options_long now, w.long, w.within)) ∙ at ∙ ap option (sym e)
  ]

  pub walk_cheaper : y.option < cost → Walked option old (set now p y) p own y.option p
  walk_cheaper l = record {
    long = length-set now p y ∙ w.long;
    within = omega (arith, w.within);
    rows = step_rows;
    kept = step_kept;
    raised = step_raised;
    chosen = record {
      from_first = omega arith;
      within = omega (arith, w.within);
      is_own = λ e. absurd (omega (arith, w.within));
      is_option = λ _. at;
      cheapest = λ k q r. elim (cases_lt p k) [
        | inl past ↦ omega (arith, w.chosen.cheapest k (omega arith) r)
        | inr here ↦ let e : k ≡ p = omega arith in omega (arith, ap option e)
      ];
      no_dearer = omega (arith, w.chosen.no_dearer);
      largest = λ k q r. omega (arith, w.chosen.cheapest k (omega arith) r);
      largest_own = λ _. omega (arith, w.chosen.no_dearer);
    };
  }

  pub walk_dearer : cost ≤ y.option → Walked option old (set now p y) p own cost best
  walk_dearer l = record {
    long = length-set now p y ∙ w.long;
    within = omega (arith, w.within);
    rows = step_rows;
    kept = step_kept;
    raised = step_raised;
    chosen = record {
      from_first = omega (arith, w.chosen.from_first);
      within = w.chosen.within;
      is_own = w.chosen.is_own;
      is_option = w.chosen.is_option;
      cheapest = λ k q r. elim (cases_lt p k) [
        | inl past ↦ w.chosen.cheapest k (omega arith) r
        | inr here ↦ let e : k ≡ p = omega arith in omega (arith, ap option e)
      ];
      no_dearer = w.chosen.no_dearer;
      largest = w.chosen.largest;
      largest_own = w.chosen.largest_own;
    };
  }
