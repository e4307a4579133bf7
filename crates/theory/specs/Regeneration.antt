-- The regeneration set of Lundin and Morton: the horizons l(t) - 1 through t after t periods, and the lot that they prove.
use Rattle.std.specs.Prelude.{◌≡◌, ℕ, zero, suc, ◌+◌, ◌-◌, ◌≤◌, Bool, true, false, cond, ◌&&◌, List, [], ◌∷◌, Some, None, Option, ◌==◌, nat_lt}
use Rattle.theory.specs.Recursion.{Case, Lot, last, plan}

-- The through period of the last of the lots, or b where there is none.
unfoldable pub end_of : ℕ → List Lot → ℕ
end_of b [] = b
end_of b (y ∷ ys) = end_of y.through ys

-- The first of the lots that is made after b.
unfoldable pub next : ℕ → List Lot → Option Lot
next b [] = None
next b (y ∷ ys) = cond (nat_lt b y.from) (Some y) (next b ys)

-- The lots that are made after b.
unfoldable pub after : ℕ → List Lot → List Lot
after b [] = []
after b (y ∷ ys) = cond (nat_lt b y.from) (y ∷ after b ys) (after b ys)

-- Whether there is a lot, with the same first and last period as y.
unfoldable pub same_lot : Option Lot → Lot → Bool
same_lot None y = false
same_lot (Some z) y = z.from == y.from && z.through == y.through

-- Whether each of the k horizons from h on has y for its next lot after b.
unfoldable pub agree : Case → ℕ → Lot → ℕ → ℕ → Bool
agree c b y h zero = true
agree c b y h (suc k) = same_lot (next b (plan c (h + k))) y && agree c b y h k

-- The lot o, where the last setup is m and every horizon from m - 1 through t agrees on it.
unfoldable pub settle : Case → ℕ → ℕ → ℕ → Option Lot → Option Lot
settle c b t zero o = None
settle c b t (suc j) None = None
settle c b t (suc j) (Some y) = cond (agree c b y j (suc t - j)) (Some y) None

-- The lot that is proved after t periods with the base b, if one is.
unfoldable pub proves : Case → ℕ → ℕ → Option Lot
proves c b t = settle c b t (last c t) (next b (plan c t))

-- A lot is proved where it is the next lot after the base b of every horizon of the regeneration set of t, and that set is not empty.
pub record Proved (c : Case) (b t : ℕ) (y : Lot) : Type 0 where
  pub some : 1 ≤ last c t
  pub all : (h : ℕ) → last c t ≤ suc h → h ≤ t → next b (plan c h) ≡ Some y

-- Two cases are alike through t: no charge, price or demand up to there tells them apart.
pub record Alike (c e : Case) (t : ℕ) : Type 0 where
  pub setups : (j : ℕ) → 1 ≤ j → j ≤ t → c.setup j ≡ e.setup j
  pub prices : (j i : ℕ) → 1 ≤ j → j ≤ i → i ≤ t → c.price j i ≡ e.price j i
  pub demands : (i : ℕ) → 1 ≤ i → i ≤ t → c.demand_of i ≡ e.demand_of i

-- Each lot begins right after the one before it, the first after b.
abbrev pub Adjoins : ℕ → List Lot → Type 0
Adjoins b [] = Unit {0}
Adjoins b (y ∷ ys) = (y.from ≡ suc b) × (y.from ≤ y.through) × Adjoins y.through ys

-- Each lot holds at least one unit.
abbrev pub Filled : List Lot → Type 0
Filled [] = Unit {0}
Filled (y ∷ ys) = (1 ≤ y.amount) × Filled ys
