-- Emptying a closed planner, lot by lot.
use Rattle.std.proofs.Common.{◌≡◌, ℕ, List, [], ◌∷◌, ◌++◌, map, Some, None, Ok, Err, Option, sym, refl, ap, ◌∙◌, subst, append_assoc, append-nil}
use Rattle.std.proofs.lemmas.List.{map_push}
use Rattle.lots.specs.Lots.{terms}
use Rattle.lots.specs.declared.lot.Lot.{Lot}
use Rattle.lots.specs.declared.lot.LotKind.TheVariants.{Closing}
use Rattle.theory.specs.Recursion as recursion
use Rattle.theory.specs.Recursion.{Case, plan}
use Rattle.theory.specs.Regeneration.{next}
use Rattle.theory.specs.Series.{Handed, Rests}
use Rattle.planner.specs.declared.refusals.RestRefusal.{RestRefusal}
use Rattle.planner.specs.Answers.{handed_lot}
use Rattle.planner.specs.Describing.{Window, reading, Describes}
use Rattle.planner.specs.Lots.{handed}
use Rattle.planner.specs.Resting.{rest_of, TellsRest, EmptiesTo}
use Rattle.planner.proofs.Feeding.{never}
use Rattle.planner.proofs.Taking.{as_handed}

-- the lots done, with any rest behind them, are a rest from the start on
abbrev pub Resting : Window → ℕ → ℕ → List Lot → Type 0
Resting w start after done =
    (c : Case) → Describes c w → (tail : List Handed) → Rests c (reading w) after tail → Rests c (reading w) start (map handed_lot done ++ tail)

-- a lot that was told is the plan's next
given : (t : ℕ) (x : Option recursion.Lot) (y : Lot) → Ok (terms y) ≡ rest_of t x → (x ≡ Some (handed_lot y).lot) × (y.evidence ≡ t)
given t None y e = absurd (never (cc))
given t (Some z) y e =
    let same : terms y ≡ handed Closing t z = cc in
    (sym (ap (λ n. Some (as_handed n).lot) same), ap (λ n. n.evidence) same)

none : (t : ℕ) (x : Option recursion.Lot) (f : RestRefusal) → Err f ≡ rest_of t x → x ≡ None
none t None f e = refl
none t (Some z) f e = absurd (never (cc))

-- one lot more
pub rests_more : (w : Window) (start after through : ℕ) (y : Lot) (done new : List Lot) →
    Resting w start after done → TellsRest w after (Ok y) → through ≡ y.through → new ≡ done ++ (y ∷ []) → Resting w start through new
rests_more w start after through y done new so_far due ends listed c h tail rest =
    let now = given (reading w) (next after (plan c (reading w))) y (due c h) in
    let more = so_far c h (handed_lot y ∷ tail) (now.0, now.1, subst (λ n. Rests c (reading w) n tail) ends rest) in
    let joined : map handed_lot new ++ tail ≡ map handed_lot done ++ (handed_lot y ∷ tail) =
    ap (λ (ys : List Lot). map handed_lot ys ++ tail) listed ∙ ap (λ (hs : List Handed). hs ++ tail) (map_push handed_lot done y)
    ∙ append_assoc (map handed_lot done) (handed_lot y ∷ []) tail in
    subst (Rests c (reading w) start) (sym joined) more

-- and no more
pub rests_done : (w : Window) (start after : ℕ) (f : RestRefusal) (done : List Lot) → Resting w start after done →
    TellsRest w after (Err f) → EmptiesTo w start done
rests_done w start after f done so_far due c h =
    subst (Rests c (reading w) start) (append-nil (map handed_lot done))
    (so_far c h [] (none (reading w) (next after (plan c (reading w))) f (due c h)))
