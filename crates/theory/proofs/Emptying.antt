-- Emptying hands out the lots of the plan after the base.
use Rattle.std.proofs.Common.{◌≡◌, ℕ, List, [], ◌∷◌, Some, None, Option, sym, refl, ap, ◌∙◌, subst, arith}
use Rattle.theory.specs.Recursion.{Case, Lot, plan}
use Rattle.theory.specs.Regeneration.{next, after}
use Rattle.theory.specs.Series.{Handed, lots, Rests, with_evidence}
use Rattle.theory.specs.Runs.{EmptyingHandsOutTheRest}
use Rattle.theory.proofs.Proving.{rest_by_lot}

module _ (c : Case) (t : ℕ) where
  rests_are : (b : ℕ) (hs : List Handed) → Rests c t b hs → hs ≡ with_evidence t (after b (plan c t))
  rests_are b [] r = ap (with_evidence t) (sym ((rest_by_lot c t b).0 r))
  rests_are b (h ∷ hs) r =
      let first : h ≡ record { lot = h.lot; evidence = t } = λ i. record { lot = h.lot; evidence = r.1 i } in
      let others : hs ≡ with_evidence t (after h.lot.through (plan c t)) = rests_are h.lot.through hs r.2 in
      let both : h ∷ hs ≡ with_evidence t (h.lot ∷ after h.lot.through (plan c t)) = cc in
      both ∙ ap (with_evidence t) (sym ((rest_by_lot c t b).1 h.lot r.0))

  are_rests : (zs : List Lot) (b : ℕ) → after b (plan c t) ≡ zs → Rests c t b (with_evidence t zs)
  are_rests [] b e = go (next b (plan c t)) refl
    where
      go : (o : Option Lot) → next b (plan c t) ≡ o → next b (plan c t) ≡ None
      go None q = q
      go (Some y) q = let f = sym e ∙ (rest_by_lot c t b).1 y q in cc
  are_rests (z ∷ zs) b e = go (next b (plan c t)) refl (are_rests zs z.through)
    where
      go : (o : Option Lot) → next b (plan c t) ≡ o → (after z.through (plan c t) ≡ zs → Rests c t z.through (with_evidence t zs)) →
          Rests c t b (with_evidence t (z ∷ zs))
      go None q ih =
          let f : [] ≡ z ∷ zs = sym ((rest_by_lot c t b).0 q) ∙ e in
          let none : ◌≡◌ {A = ℕ} 0 1 = cc in
          absurd (omega arith)
      go (Some y) q ih =
          let f : z ∷ zs ≡ y ∷ after y.through (plan c t) = sym e ∙ (rest_by_lot c t b).1 y q in
          let same : y ≡ z = cc in
          let others : after y.through (plan c t) ≡ zs = cc in
          (q ∙ ap Some same, refl, ih (ap (λ (x : Lot). after x.through (plan c t)) (sym same) ∙ others))

lots_with : (t : ℕ) (ys : List Lot) → lots (with_evidence t ys) ≡ ys
lots_with t [] = refl
lots_with t (y ∷ ys) = ap (λ (zs : List Lot). y ∷ zs) (lots_with t ys)

pub rests_lots : (c : Case) (t b : ℕ) (hs : List Handed) → Rests c t b hs → lots hs ≡ after b (plan c t)
rests_lots c t b hs r = ap lots (rests_are c t b hs r) ∙ lots_with t (after b (plan c t))

pub emptying : EmptyingHandsOutTheRest
emptying c t b hs = (rests_are c t b hs, λ e. subst (Rests c t b) (sym e) (are_rests c t (after b (plan c t)) b refl))
