-- The law of whole runs, from what every series keeps.
use Rattle.std.proofs.Common.{◌≡◌, ℕ, suc, ◌+◌, ◌-◌, ◌≤◌, List, [], ◌∷◌, ◌++◌, length, get_or, take, sym, ap, ◌∙◌, subst, arith}
use Rattle.theory.specs.Recursion.{Case, case_of, LawfulCosts, Lot, over, lot, plan}
use Rattle.theory.specs.Splittings.{made_by, total}
use Rattle.theory.specs.Regeneration.{Adjoins, Filled, after, end_of}
use Rattle.theory.specs.Netting.{net, GreatestExcess}
use Rattle.theory.specs.Endings.{Ending}
use Rattle.theory.specs.Series.{Handed, Entry, periods_read, taken, lots, base, Ran, Rests}
use Rattle.theory.specs.Runs.{amounts, FreezingIsRight, Emptied, LotsHoldTheExcess, WholeRun, FreezingIsAlwaysRight, SeriesObeyTheLaw}
use Rattle.theory.proofs.Sums.{over_none, over_split, over_same}
use Rattle.theory.proofs.Laws.{last_le, alike_self}
use Rattle.theory.proofs.Plans.{plan_adjoins, plan_total, plan_filled}
use Rattle.theory.proofs.Attained.{attained, plan_cheapest}
use Rattle.theory.proofs.Continued.{alike_goes_on}
use Rattle.theory.proofs.Proving.{Own, plan_own}
use Rattle.theory.proofs.Rolling.{Parts, in_parts, settled_parts, parts_reach, parts_begin, parts_rest}
use Rattle.theory.proofs.Netting.{net_is_greatest_excess, length_nets, nets_at}
use Rattle.theory.proofs.Kept.{in_order, within_limits, settled_by}
use Rattle.theory.proofs.Truth.{truth}
use Rattle.theory.proofs.Emptying.{rests_lots}
use Rattle.theory.proofs.Agreement.{two_series}

-- amounts of lots

adjoins_left : (b : ℕ) (ys zs : List Lot) → Adjoins b (ys ++ zs) → Adjoins b ys
adjoins_left b [] zs a = tt
adjoins_left b (y ∷ ys) zs a = (a.0, a.1, adjoins_left y.through ys zs a.2)

own_left : (c : Case) (ys zs : List Lot) → Own c (ys ++ zs) → Own c ys
own_left c [] zs o = tt
own_left c (y ∷ ys) zs o = (o.0, own_left c ys zs o.1)

-- lots that adjoin hold all demand of their periods
amounts_adjoin : (c : Case) (b : ℕ) (ys : List Lot) → Own c ys → Adjoins b ys → over c.demand_of 1 b + amounts ys ≡ over c.demand_of 1 (end_of b ys)
unfolding amounts end_of lot
amounts_adjoin c b [] o a = omega arith
amounts_adjoin c b (y ∷ ys) o a =
    let q : y.amount ≡ over c.demand_of y.from y.through = ap (λ (v : Lot). v.amount) o.0.is_lot in
    let f : over c.demand_of y.from y.through ≡ over c.demand_of (suc b) y.through = ap (λ k. over c.demand_of k y.through) a.0 in
    omega (
      arith,
      over_split c.demand_of 1 b y.through (omega arith) (omega (arith, a.0, a.1)),
      amounts_adjoin c y.through ys o.1 a.2,
    )

-- the first lots of a plan hold all demand up to their end
front_amounts : (c : Case) (n : ℕ) (ys rest : List Lot) → plan c n ≡ ys ++ rest → amounts ys ≡ over c.demand_of 1 (end_of 0 ys)
unfolding amounts end_of
front_amounts c n [] rest q = sym (over_none c.demand_of 1 0 (omega arith))
front_amounts c n (y ∷ ys) rest q =
    let p = plan_adjoins c n in
    omega (
      arith,
      p.1,
      amounts_adjoin c p.0 (y ∷ ys) (own_left c (y ∷ ys) rest (subst (Own c) q (plan_own c n)))
          (adjoins_left p.0 (y ∷ ys) rest (subst (Adjoins p.0) q p.2)),
    )

module _ {F : Type 0} (K : ℕ → ℕ) (V : ℕ → ℕ → ℕ) (ds : List ℕ) (ending : Ending F) (es : List (Entry F)) (w : LawfulCosts K V) (ran : Ran K V ds ending es) where
  freezing : FreezingIsRight K V ds ending es
  freezing cs =
      let c : Case = case_of K V ds in
      let t : ℕ = periods_read es in
      let e : Case = case_of K V (take t ds ++ cs) in
      let m : ℕ = t + length cs in
      let k : Parts e m (lots (taken es)) =
      settled_parts c e t (lots (taken es)) (settled_by K V ds ending es ran w) w
      (alike_goes_on K V ds cs t (within_limits K V ds ending es ran).demands) m (omega (arith, last_le c t)) in
      (made_by e (plan e m), plan_cheapest e w m, parts_begin e m (lots (taken es)) k)

  -- the plan of the periods read begins with the lots taken
  pub begins_plan : plan (case_of K V ds) (periods_read es) ≡ lots (taken es) ++ after (base es) (plan (case_of K V ds) (periods_read es))
  begins_plan =
      let c : Case = case_of K V ds in
      let t : ℕ = periods_read es in
      parts_rest c t (lots (taken es))
      (settled_parts c c t (lots (taken es)) (settled_by K V ds ending es ran w) w (alike_self c t) t (omega (arith, last_le c t)))

  emptied : (ys : List Lot) → plan (case_of K V ds) (periods_read es) ≡ ys → Emptied K V ds ending es ys
  emptied ys is_plan =
      let c : Case = case_of K V ds in
      let t : ℕ = periods_read es in
      record {
        is_plan = sym is_plan;
        x = made_by c (plan c t);
        cheapest = plan_cheapest c w t;
        costs = ap total (sym is_plan) ∙ (plan_total c t ∙ sym (attained c w t).1);
        filled = subst Filled is_plan (plan_filled c w t);
      }

  holds_the_excess : (ys : List Lot) → plan (case_of K V ds) (periods_read es) ≡ ys → LotsHoldTheExcess K V ds ending es ys
  holds_the_excess ys is_plan s rs gross rising q first rest f =
      let c : Case = case_of K V ds in
      let t : ℕ = periods_read es in
      let m : ℕ = end_of 0 first in
      let p : plan c t ≡ first ++ rest = is_plan ∙ f in
      let reach : m ≤ t = parts_reach c t first (in_parts c t first rest p) in
      let long : length ds ≡ length gross = ap length q ∙ length_nets s rs gross (length gross) in
      let read : t ≤ length ds = (within_limits K V ds ending es ran).demands in
      let one : (i : ℕ) → 1 ≤ i → 1 ≤ i → i ≤ m → c.demand_of i ≡ net s rs gross i =
      λ i o l u.
      ap (λ (xs : List ℕ). get_or xs (i - 1) 0) q ∙
      (nets_at s rs gross (length gross) (i - 1) (omega arith) ∙ ap (net s rs gross) (omega arith)) in
      let sum : over (net s rs gross) 1 m ≡ amounts first =
      sym (over_same c.demand_of (net s rs gross) 1 m one) ∙ sym (front_amounts c t first rest p) in
      subst (GreatestExcess s rs gross m) sum (net_is_greatest_excess s rs gross rising m)

  whole : (closing : List Handed) → Rests (case_of K V ds) (periods_read es) (base es) closing → WholeRun K V ds ending es closing
  whole closing rests =
      let c : Case = case_of K V ds in
      let t : ℕ = periods_read es in
      let is_plan : plan c t ≡ lots (taken es) ++ lots closing =
      begins_plan ∙ ap (λ (ys : List Lot). lots (taken es) ++ ys) (sym (rests_lots c t (base es) closing rests)) in
      record {
        answers = truth K V ds ending es ran;
        limits = within_limits K V ds ending es ran;
        order = in_order K V ds ending es ran;
        freezing = freezing;
        rests = rests;
        emptied = emptied (lots (taken es) ++ lots closing) is_plan;
        excess = holds_the_excess (lots (taken es) ++ lots closing) is_plan;
        agreement = two_series F K V ds ending es ran;
      }

pub freezing_right : (F : Type 0) → FreezingIsAlwaysRight F
freezing_right F = freezing

pub whole_run : (F : Type 0) → SeriesObeyTheLaw F
whole_run F = whole
