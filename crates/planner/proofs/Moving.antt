-- A window goes on describing a case from a later base on.
use Rattle.std.proofs.Common.{◌≡◌, ℕ, zero, suc, ◌+◌, ◌-◌, ◌≤◌, List, length, drop, sym, ap, ◌∙◌, subst, add-zero, add-suc, arith, length-drop, get_or-drop}
use Rattle.std.proofs.lemmas.List.{get_or_default, drop-map}
use Rattle.theory.specs.Recursion.{Case, least, last, lot_cost}
use Rattle.theory.proofs.Laws.{last_le}
use Rattle.planner.specs.declared.rows.row.Period.{Period}
use Rattle.planner.specs.declared.rows.row.Row.{Row}
use Rattle.planner.specs.declared.rows.Rows.{Rows}
use Rattle.planner.specs.Windows.{window}
use Rattle.planner.proofs.Soundness.{last_fits}
use Rattle.planner.specs.Describing.{Window, row_after, reading, RowOf, Describes, Sound, moved_to, rows_of, options_of, window_of, window_from}

row_moved : (w : Window) (through k : ℕ) → w.base ≤ through → k + (through - w.base) ≤ length w.rows →
    row_after (moved_to through w) k ≡ row_after w ((through - w.base) + k)
row_moved w through zero l m = ap (row_after w) (sym (add-zero (through - w.base)))
row_moved w through (suc k) l m =
    let n : ℕ = through - w.base in
    get_or-drop n w.rows k (row_after w n) ∙ get_or_default w.rows (n + k) (row_after w n) w.before (omega arith) ∙ ap (row_after w) (sym (add-suc n k))

pub moved_describes : (c : Case) (w : Window) (through : ℕ) → Describes c w → w.base ≤ through → through ≤ last c (reading w) - 1 → Describes c (moved_to through w)
moved_describes c w through h onward inside =
    let n : ℕ = through - w.base in
    let within : through ≤ reading w = omega (arith, last_le c (reading w)) in
    let rows_left : length (drop n w.rows) ≡ length w.rows - n = length-drop n w.rows in
    let options_left : length (drop n w.options) ≡ length w.options - n = length-drop n w.options in
    let same : reading w ≡ reading (moved_to through w) = omega arith in
    record {
      paired = omega (arith, h.paired);
      told = λ k l.
          let there : w.base + (n + k) ≡ through + k = omega arith in
          subst (λ i. RowOf c i (row_after (moved_to through w) k)) there
          (subst (RowOf c (w.base + (n + k))) (sym (row_moved w through k onward (omega arith))) (h.told (n + k) (omega arith)));
      live = λ k l live.
          let there : w.base + (n + k) ≡ through + k = omega arith in
          let live_there : last c (reading w) ≤ suc (w.base + (n + k)) = omega (arith, ap (last c) same) in
          get_or-drop n w.options k 0 ∙ h.live (n + k) (omega arith) live_there
          ∙ ap (λ i. least c i + lot_cost c (suc i) (reading w)) there ∙ ap (λ t. least c (through + k) + lot_cost c (suc (through + k)) t) same;
      inside = omega (arith, ap (last c) same);
    }

pub moved_sound : (w : Window) (through : ℕ) → w.base ≤ through → through ≤ (row_after w (length w.rows)).last - 1 → Sound w → Sound (moved_to through w)
moved_sound w through onward inside s = record {
  case = s.case;
  lawful = s.lawful;
  modest = s.modest;
  describes = moved_describes s.case w through s.describes onward (omega (arith, (s.describes.told (length w.rows) (omega arith)).last));
}

-- freeing the periods up to a later base moves the window there
pub front_freed : (base through : ℕ) (before at : Row) (periods left : List Period) →
    (let w : Window = window_from base before periods in
    at ≡ row_after w (through - base) → left ≡ drop (through - base) periods → window_from through at left ≡ moved_to through w)
front_freed base through before at periods left is rest =
    let n : ℕ = through - base in
    let rows = ap rows_of rest ∙ sym (drop-map (λ p. p.row) n periods) in
    let options = ap options_of rest ∙ sym (drop-map (λ p. p.option) n periods) in
    λ i. window_of through (is i) (rows i) (options i)

-- a base before the last setup was read
pub base_read : (r : Rows) (through : ℕ) → through ≤ (row_after (window r) (length (window r).rows)).last - 1 → through ≤ reading (window r)
base_read r through inside = omega (arith, last_fits (window r) r.sound (length (window r).rows) (omega arith))
