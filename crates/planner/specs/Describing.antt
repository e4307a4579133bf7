-- What the planner's rows say of a case: for each horizon its least cost and its last setup.
use Rattle.std.specs.Prelude.{◌≡◌, ℕ, zero, suc, ◌+◌, ◌-◌, ◌*◌, ◌<◌, ◌≤◌, List, [], ◌∷◌, ◌++◌, map, length, get_or, drop, slice_index, slice_index_or}
use Rattle.theory.specs.Recursion.{Case, Lawful, over, least, last, lot_cost}
use Rattle.planner.specs.declared.rows.row.Row.{Row}
use Rattle.planner.specs.declared.rows.row.Period.{Period}

-- the rows of a window: the row of its base, a row for each period after the base, and what each of these periods would cost as the last setup
pub record Window : Type 0 where
  pub base : ℕ
  pub before : Row
  pub rows : List Row
  pub options : List ℕ

abbrev pub window_of : ℕ → Row → List Row → List ℕ → Window
window_of base before rows options = record { base = base; before = before; rows = rows; options = options }

-- what is known of each period as a horizon
abbrev pub rows_of : List Period → List Row
rows_of = map (λ p. p.row)

-- what each period costs as the last setup
abbrev pub options_of : List Period → List ℕ
options_of = map (λ p. p.option)

-- the window of a base and the periods after it
abbrev pub window_from : ℕ → Row → List Period → Window
window_from base before periods = window_of base before (rows_of periods) (options_of periods)

-- the row k periods after the base
abbrev pub row_after : Window → ℕ → Row
row_after w zero = w.before
row_after w (suc k) = slice_index_or w.rows k w.before

-- the periods read
abbrev pub reading : Window → ℕ
reading w = w.base + length w.rows

-- a row tells the demand through its horizon, its least cost and its last setup
pub record RowOf (c : Case) (horizon : ℕ) (r : Row) : Type 0 where
  pub demanded : r.demanded ≡ over c.demand_of 1 horizon
  pub least : r.least ≡ least c horizon
  pub last : r.last ≡ last c horizon

-- the window is right about the case: every row is, every option from the last setup on is, and the base lies before the regeneration set
pub record Describes (c : Case) (w : Window) : Type 0 where
  pub paired : length w.options ≡ length w.rows
  pub told : (k : ℕ) → k ≤ length w.rows → RowOf c (w.base + k) (row_after w k)
  pub live : (k : ℕ) → k < length w.rows → last c (reading w) ≤ suc (w.base + k) →
      slice_index w.options k ≡ least c (w.base + k) + lot_cost c (suc (w.base + k)) (reading w)
  pub inside : w.base ≤ last c (reading w) - 1

-- a fact of each case that the window describes
abbrev pub InEachCase : Window → (Case → Type 0) → Type 0
InEachCase w Holds = (c : Case) → Describes c w → Holds c

-- no period asks for more than 1,000,000
abbrev pub Modest : Case → Type 0
Modest c = (i : ℕ) → c.demand_of i ≤ 1000000

-- the window is right about some lawful case
pub record Sound (w : Window) : Type 0 where
  pub case : Case
  pub lawful : Lawful case
  pub modest : Modest case
  pub describes : Describes case w

-- the place among the options at which those begin that are raised: the last setup's, or the first
abbrev pub live_from : Window → ℕ
live_from w = (row_after w (length w.rows)).last - 1 - w.base

-- the cost of option k of the next period, whose demand is d at the prices V
abbrev pub raised : (ℕ → ℕ → ℕ) → ℕ → Window → ℕ → ℕ
raised V d w k = slice_index w.options k + d * V (suc (w.base + k)) (suc (reading w))

-- the cost of the option to make the next period's demand in that period
abbrev pub own : (ℕ → ℕ) → (ℕ → ℕ → ℕ) → ℕ → Window → ℕ
own K V d w = (row_after w (length w.rows)).least + K (suc (reading w)) + d * V (suc (reading w)) (suc (reading w))

-- cost and place are those of the cheapest of the options from the first through the last but own, and of own itself, whose place is n;
-- among equals the one of the largest place
pub record Cheapest (option : ℕ → ℕ) (first n own cost place : ℕ) : Type 0 where
  pub from_first : first ≤ place
  pub within : place ≤ n
  pub is_own : place ≡ n → cost ≡ own
  pub is_option : place < n → cost ≡ option place
  pub cheapest : (k : ℕ) → first ≤ k → k < n → cost ≤ option k
  pub no_dearer : cost ≤ own
  pub largest : (k : ℕ) → place < k → k < n → cost < option k
  pub largest_own : place < n → cost < own

-- the choice for the next period, among the options that can still win
abbrev pub Chosen : (ℕ → ℕ) → (ℕ → ℕ → ℕ) → ℕ → Window → ℕ → ℕ → Type 0
Chosen K V d w cost place = Cheapest (raised V d w) (live_from w) (length w.rows) (own K V d w) cost place

-- the window after one more period of demand d at the charges K and the prices V
pub record Grown (K : ℕ → ℕ) (V : ℕ → ℕ → ℕ) (d : ℕ) (w v : Window) : Type 0 where
  pub base : v.base ≡ w.base
  pub before : v.before ≡ w.before
  pub row : Row
  pub rows : v.rows ≡ w.rows ++ (row ∷ [])
  pub paired : length v.options ≡ suc (length w.rows)
  pub older : (k : ℕ) → live_from w ≤ k → k < length w.rows → slice_index v.options k ≡ raised V d w k
  pub newest : get_or v.options (length w.rows) 0 ≡ own K V d w
  pub demanded : row.demanded ≡ (row_after w (length w.rows)).demanded + d
  -- a period without demand takes over least cost and last setup
  pub idle : d ≡ 0 → (row.least ≡ (row_after w (length w.rows)).least) × (row.last ≡ (row_after w (length w.rows)).last)
  pub busy : 1 ≤ d → (place : ℕ) × Chosen K V d w row.least place × (row.last ≡ suc (w.base + place))

-- the window from a later base on
abbrev pub moved_to : ℕ → Window → Window
moved_to through w = window_of through (row_after w (through - w.base)) (drop (through - w.base) w.rows) (drop (through - w.base) w.options)
