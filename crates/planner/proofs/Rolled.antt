-- A whole forecast: the lots frozen, and the closing ones behind them.
use Rattle.std.proofs.Common.{◌≡◌, ℕ, List, [], ◌∷◌, ◌++◌, map, Some, None, sym, refl, ap, ◌∙◌, ap₂, append-nil}
use Rattle.std.specs.List.{AllByRecursion}
use Rattle.std.proofs.lemmas.List.{map-append}
use Rattle.feeds.specs.declared.fault.FeedFault.{FeedFault}
use Rattle.feeds.specs.Forecasts.{Forecast}
use Rattle.lots.specs.Lots.{Terms, terms}
use Rattle.lots.specs.declared.lot.Lot as code
use Rattle.lots.specs.declared.lot.LotKind.TheVariants.{Closing}
use Rattle.theory.specs.Eager.{Outcome}
use Rattle.theory.specs.Recursion.{Case, plan}
use Rattle.theory.specs.Regeneration.{after}
use Rattle.theory.specs.Series.{Rests}
use Rattle.theory.proofs.Proving.{rest_by_lot}
use Rattle.planner.specs.declared.refusals.ReadRefusal.{ReadRefusal}
use Rattle.planner.specs.declared.refusals.ReadRefusal.TheVariants.{LotWaits, WindowFull, LimitReached, FeedEnded, Feed}
use Rattle.planner.specs.Answers.{handed_lot, read_refusal}
use Rattle.planner.specs.Describing.{Window, reading}
use Rattle.planner.specs.Freezing.{FrozenAs}
use Rattle.planner.specs.Lots.{handed}
use Rattle.planner.specs.Resting.{EmptiesTo}
use Rattle.planner.specs.Rolling.{frozen_terms, closing_terms, stop_of, RolledOut}
use Rattle.planner.specs.Standing.{Charges, case_at}

-- lots that emptying handed out are the rest of the plan, as closing
pub closing_terms_lem : (c : Case) (t b : ℕ) (ys : List code.Lot) → Rests c t b (map handed_lot ys) → AllByRecursion (λ y. y.kind ≡ Closing) ys → map terms ys ≡ map (handed Closing t) (after b (plan c t))
closing_terms_lem c t b [] r k = ap (map (handed Closing t)) (sym ((rest_by_lot c t b).0 r))
closing_terms_lem c t b (y ∷ ys) r k =
    let head : terms y ≡ handed Closing t (handed_lot y).lot =
    λ i. record { kind = k.0 i; from = y.from; through = y.through; amount = y.amount; cost = y.cost; evidence = r.1 i } in
    ap₂ (λ x (xs : List Terms). x ∷ xs) head (closing_terms_lem c t y.through ys r.2 k.1)
    ∙ ap (map (handed Closing t)) (sym ((rest_by_lot c t b).1 (handed_lot y).lot r.0))

module _ (c : Charges) (all : Forecast) (refusal : ReadRefusal) (now : List code.Lot) (w : Window) (f : FrozenAs c all [] refusal now w) where
  -- a feed that came to its end
  pub rolled_whole : refusal ≡ FeedEnded → (closing lots : List code.Lot) → lots ≡ now ++ closing →
      EmptiesTo w w.base closing → AllByRecursion (λ y. y.kind ≡ Closing) closing →
      RolledOut c all (map terms lots) None
  rolled_whole ended closing lots joined rests kinds =
      let k : Case = case_at c all in
      let rest = closing_terms_lem k (reading w) w.base closing (rests k f.describes) kinds in (
        ap (map terms) joined ∙ map-append terms now closing ∙ ap₂ (λ (xs ys : List Terms). xs ++ ys) f.listed rest
            ∙ ap (λ r. map frozen_terms f.taken ++ closing_terms k (reading w) w.base (read_refusal r)) (sym ended)
            ∙ ap (λ (o : Outcome FeedFault). map frozen_terms o.lots ++ closing_terms k o.read o.base o.stop) (sym f.eagerly),
        ap (λ r. stop_of (read_refusal r)) (sym ended) ∙ ap (λ (o : Outcome FeedFault). stop_of o.stop) (sym f.eagerly),
      )

  -- a feed that did not
  pub rolled_part : (refusal ≡ FeedEnded → ⊥) → RolledOut c all (map terms now) (Some refusal)
  rolled_part apart =
      let k : Case = case_at c all in
      let o = other refusal apart in (
        f.listed ∙ sym (append-nil (map frozen_terms f.taken)) ∙ ap (λ (xs : List Terms). map frozen_terms f.taken ++ xs) (sym o.0)
            ∙ ap (λ (x : Outcome FeedFault). map frozen_terms x.lots ++ closing_terms k x.read x.base x.stop) (sym f.eagerly),
        o.1 ∙ ap (λ (x : Outcome FeedFault). stop_of x.stop) (sym f.eagerly),
      )
    where
      other : (r : ReadRefusal) → (r ≡ FeedEnded → ⊥) → (closing_terms (case_at c all) (reading w) w.base (read_refusal r) ≡ []) × (Some r ≡ stop_of (read_refusal r))
      other LotWaits a = (refl, refl)
      other WindowFull a = (refl, refl)
      other LimitReached a = (refl, refl)
      other FeedEnded a = absurd (a refl)
      other (Feed x) a = (refl, refl)
