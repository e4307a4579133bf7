-- Reading a whole feed into rows.
use Rattle.std.proofs.Common.{◌≡◌, ℕ, suc, ◌-◌, ◌<◌, ◌≤◌, leb, List, [], ◌∷◌, map, length, get_or, drop, Ok, Err, sym, refl, ap, ap₂, ◌∙◌, subst, arith}
use Rattle.std.proofs.lemmas.Bool.{lt-leb, cond-false}
use Rattle.std.specs.List.{AllByRecursion}
use Rattle.lots.specs.Lots.{Terms, terms}
use Rattle.lots.specs.declared.lot.Lot as code
use Rattle.lots.specs.declared.lot.LotKind.TheVariants.{Closing}
use Rattle.std.proofs.lemmas.List.{length_push}
use Rattle.theory.specs.Endings.{Ending, finished_feed, faulty_feed}
use Rattle.theory.specs.Regeneration.{after}
use Rattle.theory.specs.Recursion.{Case, LawfulCosts, plan}
use Rattle.feeds.specs.Feeding.{others}
use Rattle.feeds.specs.declared.fault.FeedFault.{FeedFault}
use Rattle.feeds.specs.Forecasts.{Forecast}
use Rattle.planner.specs.Describing.{Window, reading, Describes, Grown}
use Rattle.planner.specs.Windows.{empty}
use Rattle.planner.proofs.Steps.{Meets}
use Rattle.planner.proofs.Growth.{grown_describes, empty_describes}
use Rattle.planner.specs.Lots.{handed}
use Rattle.planner.specs.Resting.{EmptiesTo}
use Rattle.planner.specs.Standing.{Charges, case_at}
use Rattle.planner.specs.Tracking.{Outlook, beyond}
use Rattle.planner.specs.Whole.{read_out, whole_plan}
use Rattle.planner.specs.declared.refusal.PlanRefusal.TheVariants.{WindowFull, Feed}
use Rattle.planner.proofs.Backward.{after_start}
use Rattle.planner.proofs.Feeding.{next_demand, none_left}
use Rattle.planner.proofs.Rolled.{closing_terms_lem}

-- the window is right about the periods of a forecast that were read, and the rest is still to come
pub record Reading (c : Charges) (all : Forecast) (o : Outlook) : Type 0 where
  pub from_start : o.window.base ≡ 0
  pub describes : Describes (case_at c all) o.window
  pub within : length o.window.rows ≤ length all.demands
  pub left : o.left ≡ beyond (length o.window.rows) all

pub reading_none : (c : Charges) (all : Forecast) (w : Window) → w ≡ empty → Reading c all (record { window = w; left = all })
reading_none c all w e =
    subst (λ v. Reading c all (record { window = v; left = all })) (sym e)
    (record { from_start = refl; describes = empty_describes (case_at c all); within = omega arith; left = refl })

pub reading_more : (c : Charges) → LawfulCosts c.K c.V → (all : Forecast) (o o' : Outlook) (d : ℕ) →
    Reading c all o → o.left.demands ≡ d ∷ others o.left.demands → o'.left.demands ≡ others o.left.demands → o'.left.ending ≡ o.left.ending →
    Grown c.K c.V d o.window o'.window → Reading c all o'
reading_more c lawful all o o' d r is rest same g =
    let n : ℕ = length o.window.rows in
    let next = next_demand all.demands o.left.demands n d (ap (λ f. f.demands) r.left) is in
    let on : suc (reading o.window) - 1 ≡ n = omega (arith, r.from_start) in
    let meets : Meets (case_at c all) (reading o.window) c.K c.V d = record { setup = refl; price = λ _. refl; demand = ap (λ k. get_or all.demands k 0) on ∙ next.0 } in
    let longer : length o'.window.rows ≡ suc n = omega (arith, ap length g.rows, length_push o.window.rows g.row) in
    let still : o'.left.demands ≡ drop (length o'.window.rows) all.demands = rest ∙ next.2 ∙ ap (λ k. drop k all.demands) (sym longer) in
    let ending : o'.left.ending ≡ all.ending = same ∙ ap (λ f. f.ending) r.left in
    record {
      from_start = g.base ∙ r.from_start;
      describes = grown_describes (case_at c all) lawful o.window o'.window c.K c.V d r.describes meets g;
      within = omega (arith, next.1, longer);
      left = ap₂ (λ (ds : List ℕ) (end : Ending FeedFault). record { demands = ds; ending = end }) still ending;
    }

-- what a feed that is read to its end comes to
module _ (c : Charges) (all : Forecast) (o : Outlook) (r : Reading c all o) (room : length o.window.rows < 256) (none : o.left.demands ≡ []) where
  all_read : length o.window.rows ≡ length all.demands
  all_read = none_left all.demands o.left.demands (length o.window.rows) r.within (ap (λ f. f.demands) r.left) none

  -- the ending says what is planned
  planned_at : (end : Ending FeedFault) → o.left.ending ≡ end →
      read_out end (map (handed Closing (length all.demands)) (plan (case_at c all) (length all.demands))) ≡ whole_plan c all
  planned_at end is =
      let lots : List Terms = map (handed Closing (length all.demands)) (plan (case_at c all) (length all.demands)) in
      ap (λ x. read_out x lots) (sym is ∙ ap (λ f. f.ending) r.left)
      ∙ sym (cond-false (leb 256 (length all.demands)) (Err WindowFull) (read_out all.ending lots) (lt-leb 256 (length all.demands) (omega (arith, all_read))))

  pub planned_fault : (f : FeedFault) → o.left.ending ≡ faulty_feed f → Err (Feed f) ≡ whole_plan c all
  planned_fault f is = planned_at (faulty_feed f) is

  pub planned_whole : (lots : List code.Lot) → o.left.ending ≡ finished_feed → EmptiesTo o.window o.window.base lots → AllByRecursion (λ y. y.kind ≡ Closing) lots →
      Ok (map terms lots) ≡ whole_plan c all
  planned_whole lots is rests kinds =
      let k : Case = case_at c all in
      let t : reading o.window ≡ length all.demands = omega (arith, r.from_start, all_read) in
      let whole : map terms lots ≡ map (handed Closing (length all.demands)) (plan k (length all.demands)) =
      closing_terms_lem k (reading o.window) o.window.base lots (rests k r.describes) kinds
      ∙ ap (λ b. map (handed Closing (reading o.window)) (after b (plan k (reading o.window)))) r.from_start
      ∙ ap (map (handed Closing (reading o.window))) (after_start k (reading o.window)) ∙ ap (λ i. map (handed Closing i) (plan k i)) t in
      ap Ok whole ∙ planned_at finished_feed is
