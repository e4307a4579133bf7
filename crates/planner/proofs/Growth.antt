-- Rows that describe a case go on describing it as they grow.
use Rattle.std.proofs.Common.{◌≡◌, ℕ, zero, suc, ◌+◌, ◌-◌, ◌≤◌, List, length, get_or, sym, refl, ap, ◌∙◌, subst, inl, inr, arith}
use Rattle.std.proofs.lemmas.List.{get_or_append_left, get_or_push, length_push}
use Rattle.std.proofs.lemmas.Bool.{cases_lt}
use Rattle.theory.specs.Recursion.{Case, Lawful, over, least, last, lot_cost}
use Rattle.theory.specs.Regeneration.{Alike}
use Rattle.theory.proofs.Sums.{over_step}
use Rattle.theory.proofs.Monotone.{monotone}
use Rattle.theory.proofs.Laws.{least_alike, last_alike, demand_same, lot_cost_same, last_zero, least_none}
use Rattle.planner.specs.declared.rows.row.Row.{Row}
use Rattle.planner.specs.Describing.{Window, row_after, reading, RowOf, Describes, Grown}
use Rattle.planner.specs.Windows.{empty}
use Rattle.theory.proofs.Idle.{idle_period}
use Rattle.planner.proofs.Steps.{Meets, own_is, raised_is, chosen_is}

-- the new row tells of the next horizon
row_grown : (c : Case) → Lawful c → (w v : Window) (K : ℕ → ℕ) (V : ℕ → ℕ → ℕ) (d : ℕ) → Describes c w → Meets c (reading w) K V d →
    (g : Grown K V d w v) → RowOf c (suc (reading w)) g.row
row_grown c lawful w v K V d h m g = elim (cases_lt 0 d) [
  | inl some ↦
      let b = g.busy some in
      let is = chosen_is c w h K V d m lawful some g.row.least b.0 b.1 in
      record { demanded = demanded; least = sym is.1; last = b.2 ∙ sym is.0 }
  | inr none ↦
      let i = g.idle (omega arith) in
      let is = idle_period c lawful (reading w) (omega (arith, m.demand)) in
      record { demanded = demanded; least = i.0 ∙ newest.least ∙ sym is.0; last = i.1 ∙ newest.last ∙ sym is.1 }
]
  where
    newest : RowOf c (reading w) (row_after w (length w.rows))
    newest = h.told (length w.rows) (omega arith)

    demanded : g.row.demanded ≡ over c.demand_of 1 (suc (reading w))
    demanded = omega (arith, g.demanded, newest.demanded, over_step c.demand_of 1 (reading w) (omega arith), m.demand)

-- the rows there were stay where they are
row_kept : {K : ℕ → ℕ} {V : ℕ → ℕ → ℕ} {d : ℕ} (w v : Window) (g : Grown K V d w v) (k : ℕ) → k ≤ length w.rows → row_after v k ≡ row_after w k
row_kept w v g zero l = g.before
row_kept w v g (suc k) l =
    ap (λ (rs : List Row). get_or rs k v.before) g.rows ∙ get_or_append_left w.rows _ v.before k l ∙ ap (get_or w.rows k) g.before

row_new : {K : ℕ → ℕ} {V : ℕ → ℕ → ℕ} {d : ℕ} (w v : Window) (g : Grown K V d w v) → row_after v (suc (length w.rows)) ≡ g.row
row_new w v g = ap (λ (rs : List Row). get_or rs (length w.rows) v.before) g.rows ∙ get_or_push w.rows g.row v.before (length w.rows) refl

pub grown_describes : (c : Case) → Lawful c → (w v : Window) (K : ℕ → ℕ) (V : ℕ → ℕ → ℕ) (d : ℕ) → Describes c w → Meets c (reading w) K V d →
    Grown K V d w v → Describes c v
grown_describes c lawful w v K V d h m g =
    let long : length v.rows ≡ suc (length w.rows) = omega (arith, ap length g.rows, length_push w.rows g.row) in
    let on : reading v ≡ suc (reading w) = omega (arith, g.base) in
    let risen : last c (reading w) ≤ last c (suc (reading w)) = monotone c lawful (reading w) in
    let later : last c (reading v) ≡ last c (suc (reading w)) = ap (last c) on in
    record {
      paired = g.paired ∙ sym long;
      told = λ k l. elim (cases_lt (length w.rows) k) [
        | inl past ↦
            let e : k ≡ suc (length w.rows) = omega arith in
            let there : suc (reading w) ≡ v.base + k = omega (arith, g.base) in
            subst (λ n. RowOf c n (row_after v k)) there
            (subst (RowOf c (suc (reading w))) (sym (ap (row_after v) e ∙ row_new w v g)) (row_grown c lawful w v K V d h m g))
        | inr before ↦
            let there : w.base + k ≡ v.base + k = omega (arith, g.base) in
            subst (λ n. RowOf c n (row_after v k)) there (subst (RowOf c (w.base + k)) (sym (row_kept w v g k before)) (h.told k before))
      ];
      live = λ k l live.
          let there : w.base + k ≡ v.base + k = omega (arith, g.base) in
          let at : least c (w.base + k) + lot_cost c (suc (w.base + k)) (reading v) ≡ least c (w.base + k) + lot_cost c (suc (w.base + k)) (suc (reading w)) =
          ap (λ t. least c (w.base + k) + lot_cost c (suc (w.base + k)) t) on in
          subst (λ n. get_or v.options k 0 ≡ least c n + lot_cost c (suc n) (reading v)) there
          elim (cases_lt k (length w.rows)) [
            | inl old ↦
                let entered = ap (λ x. x - 1 - w.base) (h.told (length w.rows) (omega arith)).last in
                g.older k (omega (arith, g.base)) old ∙ raised_is c w h K V d m k old (omega (arith, g.base)) ∙ sym at
            | inr new ↦
                let is : k ≡ length w.rows = omega arith in
                ap (λ i. get_or v.options i 0) is ∙ g.newest ∙ own_is c w h K V d m
                ∙ sym (at ∙ ap (λ i. least c (w.base + i) + lot_cost c (suc (w.base + i)) (suc (reading w))) is)
          ];
      inside = omega (arith, h.inside, g.base);
    }

-- what rows say of the periods read holds of every case alike through them
pub alike_describes : (c e : Case) (w : Window) → Alike c e (reading w) → Describes c w → Describes e w
alike_describes c e w a h =
    let t : ℕ = reading w in
    let same_last : last c t ≡ last e t = last_alike c e t t a (omega arith) in
    record {
      paired = h.paired;
      told = λ k l.
          let r = h.told k l in
          record {
            demanded = r.demanded ∙ demand_same c e t 1 (w.base + k) a (omega arith);
            least = r.least ∙ least_alike c e t (w.base + k) a (omega arith);
            last = r.last ∙ last_alike c e t (w.base + k) a (omega arith);
          };
      live = λ k l live.
          omega (
            arith,
            h.live k l (omega arith),
            least_alike c e t (w.base + k) a (omega arith),
            lot_cost_same c e t (suc (w.base + k)) t a (omega arith) (omega arith) (omega arith),
          );
      inside = omega (arith, h.inside);
    }

-- before anything is read the window is right about every case
pub empty_describes : (c : Case) → Describes c empty
unfolding over
empty_describes c = record {
  paired = refl;
  told = told;
  live = λ k l _. absurd (omega arith);
  inside = omega arith;
}
  where
    told : (k : ℕ) → k ≤ 0 → RowOf c (0 + k) (row_after empty k)
    told zero l = record { demanded = refl; least = sym (least_none c 0 (last_zero c)); last = sym (last_zero c) }
    told (suc k) l = absurd (omega arith)
