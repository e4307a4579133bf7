-- What every series keeps: its limits, its lots in order, and that they are settled.
use Rattle.std.proofs.Common.{◌≡◌, ℕ, suc, ◌<◌, ◌≤◌, List, [], ◌∷◌, ◌++◌, length, sym, ap, ◌∙◌, subst, arith}
use Rattle.std.proofs.lemmas.List.{map_push}
use Rattle.theory.specs.Recursion.{case_of, LawfulCosts}
use Rattle.theory.specs.Regeneration.{end_of}
use Rattle.theory.specs.Horizons.{Settled}
use Rattle.theory.specs.Endings.{Ending}
use Rattle.theory.specs.Series.{Handed, Entry, periods_read, taken, lots, base, Ran}
use Rattle.theory.specs.Runs.{InOrder, WithinLimits, TakenLotsAreSettled}
use Rattle.theory.proofs.Plans.{end_append}
use Rattle.theory.proofs.Proving.{proves_sound, proved_ends}
use Rattle.theory.proofs.Rolling.{settled_none, settled_read, settled_take}
use Rattle.theory.proofs.Series.{series_ind}

-- one lot more

pub lots_push : (hs : List Handed) (h : Handed) → lots (hs ++ (h ∷ [])) ≡ lots hs ++ (h.lot ∷ [])
lots_push hs h = map_push (λ (z : Handed). z.lot) hs h

pub end_push : (b : ℕ) (hs : List Handed) (h : Handed) → end_of b (lots (hs ++ (h ∷ []))) ≡ h.lot.through
unfolding end_of
end_push b hs h = ap (end_of b) (lots_push hs h) ∙ end_append b (lots hs) (h.lot ∷ [])

order_more : (r b : ℕ) (hs : List Handed) → InOrder r b hs → InOrder (suc r) b hs
order_more r b [] o = tt
order_more r b (h ∷ hs) o = (o.0, o.1, o.2, omega (arith, o.3), order_more r h.lot.through hs o.4)

order_push : (r b : ℕ) (hs : List Handed) (h : Handed) → InOrder r b hs → end_of b (lots hs) < h.lot.from → h.lot.from ≤ h.lot.through →
    h.lot.through < h.evidence → h.evidence ≤ r → InOrder r b (hs ++ (h ∷ []))
unfolding end_of
order_push r b [] h o p q u v = (p, q, u, v, tt)
order_push r b (i ∷ hs) h o p q u v = (o.0, o.1, o.2, o.3, order_push r i.lot.through hs h o.4 p q u v)

module _ {F : Type 0} (K : ℕ → ℕ) (V : ℕ → ℕ → ℕ) (ds : List ℕ) (ending : Ending F) (es : List (Entry F)) (ran : Ran K V ds ending es) where
  pub in_order : InOrder (periods_read es) 0 (taken es)
  in_order =
      series_ind K V ds ending (λ t hs. InOrder t 0 hs)
      (λ t hs o p u v w. order_more t 0 hs o)
      (λ t hs y o p.
      let f = proved_ends (case_of K V ds) (end_of 0 (lots hs)) t y (proves_sound (case_of K V ds) (end_of 0 (lots hs)) t y p) in
      order_push t 0 hs (record { lot = y; evidence = t }) o f.0 f.1 f.2 (omega arith))
      tt es ran

  pub within_limits : WithinLimits (length ds) (periods_read es) (base es)
  unfolding end_of
  within_limits =
      series_ind K V ds ending (λ t hs. WithinLimits (length ds) t (end_of 0 (lots hs)))
      (λ t hs k p u v w. record { demands = w; most = v; window = u; behind = omega (arith, k.behind) })
      (λ t hs y k p.
      let f = proved_ends (case_of K V ds) (end_of 0 (lots hs)) t y (proves_sound (case_of K V ds) (end_of 0 (lots hs)) t y p) in
      let e : end_of 0 (lots (hs ++ (record { lot = y; evidence = t } ∷ []))) ≡ y.through = end_push 0 hs (record { lot = y; evidence = t }) in
      record {
        demands = k.demands;
        most = k.most;
        window = omega (arith, k.window, f.0, f.1);
        behind = omega (arith, f.2);
      })
      (record { demands = omega arith; most = omega arith; window = omega arith; behind = omega arith })
      es ran

  pub settled_by : LawfulCosts K V → Settled (case_of K V ds) (periods_read es) (lots (taken es))
  settled_by w =
      series_ind K V ds ending (λ t hs. Settled (case_of K V ds) t (lots hs))
      (λ t hs s p u v x. settled_read (case_of K V ds) w t (lots hs) s)
      (λ t hs y s p.
      subst (Settled (case_of K V ds) t) (sym (lots_push hs (record { lot = y; evidence = t })))
      (settled_take (case_of K V ds) t (lots hs) y s (proves_sound (case_of K V ds) (end_of 0 (lots hs)) t y p)))
      (settled_none (case_of K V ds) 0) es ran

pub taken_settled : (F : Type 0) → TakenLotsAreSettled F
taken_settled F K V ds ending es w r = settled_by K V ds ending es r w
