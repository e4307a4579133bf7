-- Plans of every kind: under a plan x, period j makes x j i units towards what period i asks.
use Rattle.std.specs.Prelude.{◌≡◌, ℕ, ◌+◌, ◌*◌, ◌<◌, ◌≤◌, cond, ◌&&◌, List, [], ◌∷◌, ◌==◌, nat_le}
use Rattle.theory.specs.Recursion.{Case, Lot, over}
use Rattle.theory.specs.Regeneration.{end_of}

-- A plan serves n periods where each demand is made in time, in its own period or before.
abbrev pub Serves : Case → (ℕ → ℕ → ℕ) → ℕ → Type 0
Serves c x n = (i : ℕ) → 1 ≤ i → i ≤ n → over (λ j. x j i) 1 i ≡ c.demand_of i

-- What period j costs: its charge where it makes at least one unit, and its units at their prices.
unfoldable pub row : Case → (ℕ → ℕ → ℕ) → ℕ → ℕ → ℕ
row c x n j = cond (nat_le 1 (over (x j) j n)) (c.setup j) 0 + over (λ i. x j i * c.price j i) j n

-- What a plan costs over n periods.
unfoldable pub cost : Case → (ℕ → ℕ → ℕ) → ℕ → ℕ
cost c x n = over (row c x n) 1 n

-- The plan that lots describe: each makes the demand of its periods in its first.
unfoldable pub made_by : Case → List Lot → ℕ → ℕ → ℕ
made_by c [] j i = 0
made_by c (y ∷ ys) j i = cond (y.from == j && (nat_le y.from i && nat_le i y.through)) (c.demand_of i) (made_by c ys j i)

-- The sum of the costs of lots.
unfoldable pub total : List Lot → ℕ
total [] = 0
total (y ∷ ys) = y.costs + total ys

-- A plan is cheapest where it serves n periods and no other that does costs less.
pub record Cheapest (c : Case) (x : ℕ → ℕ → ℕ) (n : ℕ) : Type 0 where
  pub serves : Serves c x n
  pub best : (y : ℕ → ℕ → ℕ) → Serves c y n → cost c x n ≤ cost c y n

-- A plan begins with lots: demand through their end is made as they say, and all later demand after it.
pub record BeginsWith (c : Case) (ys : List Lot) (x : ℕ → ℕ → ℕ) : Type 0 where
  pub as_lots : (j i : ℕ) → 1 ≤ i → i ≤ end_of 0 ys → x j i ≡ made_by c ys j i
  pub from_there : (j i : ℕ) → end_of 0 ys < i → j ≤ end_of 0 ys → x j i ≡ 0
