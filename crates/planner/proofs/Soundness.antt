-- A window that is right about some lawful case stays so, whichever lawful model is asked for the next period; and all its numbers are small.
use Rattle.std.proofs.Common.{◌≡◌, ℕ, zero, suc, ◌+◌, ◌-◌, ◌*◌, ◌^◌, ◌<◌, ◌≤◌, Bool, true, false, cond, leb, length, get_or, sym, ap, inl, inr, suc-mul, mul-le-mul, arith}
use mathlib.Core.Logic.{∥∥₁_elim}
use native.Mathlib.Bridge.{le_prop}
use Rattle.std.proofs.lemmas.Bool.{cases_lt, cond_both, cond-true, cond-false, le-leb, lt-leb}
use Rattle.theory.specs.Recursion.{Case, LawfulCosts, Lawful, over, least, lot_cost}
use Rattle.theory.specs.Regeneration.{Alike}
use Rattle.theory.proofs.Sums.{over_step, over_none}
use Rattle.theory.proofs.Laws.{least_le, last_le, least_none}
use Rattle.planner.specs.Describing.{Window, row_after, reading, Grown, Modest, Sound, live_from}
use Rattle.planner.specs.Windows.{empty}
use Rattle.planner.proofs.Steps.{Meets}
use Rattle.planner.proofs.Growth.{grown_describes, alike_describes, empty_describes}

-- the case c through t periods, and from there on the charges K, the prices V and the demand d
abbrev prolonged : Case → ℕ → (ℕ → ℕ) → (ℕ → ℕ → ℕ) → ℕ → Case
prolonged c t K V d = record {
  setup = λ j. cond (leb j t) (c.setup j) (K j);
  price = λ j i. cond (leb i t) (c.price j i) (V j i);
  demand_of = λ i. cond (leb i t) (c.demand_of i) d;
}

module _ (c : Case) (t : ℕ) (K : ℕ → ℕ) (V : ℕ → ℕ → ℕ) (d : ℕ) where
  prolonged_lawful : Lawful c → LawfulCosts K V → Lawful (prolonged c t K V d)
  prolonged_lawful w u = record {
    charged = λ j l. cond_both (leb j t) (c.setup j) (K j) (λ x. 1 ≤ x) (λ _. w.charged j l) (λ _. u.charged j l);
    charge_fits = λ j l. cond_both (leb j t) (c.setup j) (K j) (λ x. x ≤ 1000000000) (λ _. w.charge_fits j l) (λ _. u.charge_fits j l);
    later = λ j i l m. later j i l m (leb i t);
    price_fits = λ j i l m n. cond_both (leb i t) (c.price j i) (V j i) (λ x. x ≤ 1000000) (λ _. w.price_fits j i l m n) (λ _. u.price_fits j i l m n);
  }
    where
      later : (j i : ℕ) → 1 ≤ j → j < i → (b : Bool) → cond b (c.price (suc j) i) (V (suc j) i) ≤ cond b (c.price j i) (V j i)
      later j i l m true = w.later j i l m
      later j i l m false = u.later j i l m

  prolonged_modest : Modest c → d ≤ 1000000 → Modest (prolonged c t K V d)
  prolonged_modest w u i = cond_both (leb i t) (c.demand_of i) d (λ x. x ≤ 1000000) (λ _. w i) (λ _. u)

  prolonged_alike : Alike c (prolonged c t K V d) t
  prolonged_alike = record {
    setups = λ j _ l. sym (cond-true (leb j t) (c.setup j) (K j) (le-leb j t l));
    prices = λ j i _ _ l. sym (cond-true (leb i t) (c.price j i) (V j i) (le-leb i t l));
    demands = λ i _ l. sym (cond-true (leb i t) (c.demand_of i) d (le-leb i t l));
  }

  prolonged_meets : Meets (prolonged c t K V d) t K V d
  prolonged_meets =
      let past : leb (suc t) t ≡ false = lt-leb (suc t) t (omega arith) in
      record {
        setup = cond-false (leb (suc t) t) (c.setup (suc t)) (K (suc t)) past;
        price = λ j. cond-false (leb (suc t) t) (c.price j (suc t)) (V j (suc t)) past;
        demand = cond-false (leb (suc t) t) (c.demand_of (suc t)) d past;
      }

pub sound_grown : (w v : Window) (K : ℕ → ℕ) (V : ℕ → ℕ → ℕ) (d : ℕ) → LawfulCosts K V → d ≤ 1000000 → Grown K V d w v → Sound w → Sound v
sound_grown w v K V d u small g s =
    let c : Case = s.case in
    let t : ℕ = reading w in
    let lawful = prolonged_lawful c t K V d s.lawful u in
    record {
      case = prolonged c t K V d;
      lawful = lawful;
      modest = prolonged_modest c t K V d s.modest small;
      describes = grown_describes (prolonged c t K V d) lawful w v K V d
          (alike_describes c (prolonged c t K V d) w (prolonged_alike c t K V d) s.describes) (prolonged_meets c t K V d) g;
    }

-- nothing is asked, and every setup costs 1
pub sound_empty : Sound empty
sound_empty = record {
  case = record { setup = λ _. 1; price = λ _ _. 0; demand_of = λ _. 0 };
  lawful = record {
    charged = λ _ _. omega arith;
    charge_fits = λ _ _. omega arith;
    later = λ _ _ _ _. omega arith;
    price_fits = λ _ _ _ _ _. omega arith;
  };
  modest = λ _. omega arith;
  describes = empty_describes (record { setup = λ _. 1; price = λ _ _. 0; demand_of = λ _. 0 });
}

-- bounds

-- what one period can cost at most, its setup included
abbrev pub dearest : ℕ
dearest = 1001000000000

-- a sum over n periods of at most m each
pub over_bound : (f : ℕ → ℕ) (a m n b : ℕ) → b < a + n → ((i : ℕ) → a ≤ i → i ≤ b → f i ≤ m) → over f a b ≤ n * m
unfolding over
over_bound f a m zero b l h = omega (arith, over_none f a b (omega arith))
over_bound f a m (suc n) zero l h = omega arith
over_bound f a m (suc n) (suc b) l h = elim (cases_lt (suc b) a) [
  | inl empty ↦ omega (arith, over_none f a (suc b) empty)
  | inr some ↦
      omega (arith, over_step f a b some, over_bound f a m n b (omega arith) (λ i p q. h i p (omega arith)), h (suc b) some (omega arith), suc-mul n m)
]

module _ (c : Case) (lawful : Lawful c) (modest : Modest c) where
  demand_bound : (n : ℕ) → over c.demand_of 1 n ≤ n * 1000000
  demand_bound n = over_bound c.demand_of 1 1000000 n n (omega arith) (λ i _ _. modest i)

  -- a lot over n periods costs its setup, and its units at their prices
  lot_bound : (a n b : ℕ) → 1 ≤ a → b < a + n → n ≤ 256 → lot_cost c a b ≤ 1000000000 + n * 1000000000000
  unfolding lot_cost
  lot_bound a n b l m k =
      omega (arith, lawful.charge_fits a l, near)
    where
      priced : (i : ℕ) → a ≤ i → i < a + n → c.demand_of i * c.price a i ≤ 1000000000000
      priced i p q = mul-le-mul (modest i) (lawful.price_fits a i l p (omega arith))

      near : over (λ i. c.demand_of i * c.price a i) a b ≤ n * 1000000000000
      near = over_bound (λ i. c.demand_of i * c.price a i) a 1000000000000 n b m (λ i p q. priced i p (omega arith))

  pub least_bound : (n : ℕ) → least c n ≤ n * dearest
  least_bound zero = omega (arith, least_none c 0 (omega (arith, last_le c 0)))
  least_bound (suc n) =
      omega (arith, least_bound n, least_le c (suc n) n (omega arith), lot_bound (suc n) 1 (suc n) (omega arith) (omega arith) (omega arith))

-- the numbers of a sound window

module _ (w : Window) (sound : ∥ Sound w ∥₁) where
  pub least_fits : (k : ℕ) → k ≤ length w.rows → (row_after w k).least ≤ (w.base + k) * dearest
  least_fits k l = ∥∥₁_elim sound le_prop (λ s. omega (arith, (s.describes.told k l).least, least_bound s.case s.lawful s.modest (w.base + k)))

  pub demanded_fits : (k : ℕ) → k ≤ length w.rows → (row_after w k).demanded ≤ (w.base + k) * 1000000
  demanded_fits k l = ∥∥₁_elim sound le_prop (λ s. omega (arith, (s.describes.told k l).demanded, demand_bound s.case s.lawful s.modest (w.base + k)))

  pub last_fits : (k : ℕ) → k ≤ length w.rows → (row_after w k).last ≤ w.base + k
  last_fits k l = ∥∥₁_elim sound le_prop (λ s. omega (arith, (s.describes.told k l).last, last_le s.case (w.base + k)))

  pub base_inside : w.base ≤ (row_after w (length w.rows)).last - 1
  base_inside = ∥∥₁_elim sound le_prop (λ s. omega (arith, s.describes.inside, (s.describes.told (length w.rows) (omega arith)).last))

  pub options_fit : length w.rows ≤ 256 → reading w ≤ 10000 → (k : ℕ) → live_from w ≤ k → k < length w.rows → get_or w.options k 0 ≤ 2 ^ 60
  options_fit narrow few k live within = ∥∥₁_elim sound le_prop (λ s.
      omega (
        arith,
        s.describes.live k within (omega (arith, ap (λ x. x - 1 - w.base) (s.describes.told (length w.rows) (omega arith)).last)),
        least_bound s.case s.lawful s.modest (w.base + k),
        lot_bound s.case s.lawful s.modest (suc (w.base + k)) (length w.rows - k) (reading w) (omega arith) (omega arith) (omega arith),
      ))
