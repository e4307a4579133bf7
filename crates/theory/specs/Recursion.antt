-- Dynamic lot sizing by the forward recursion of Wagner and Whitin. Its letters: K charges, V prices, G least costs, l last setups.
use Rattle.std.specs.Prelude.{ℕ, zero, suc, ◌+◌, ◌-◌, ◌*◌, ◌<◌, ◌≤◌, cond, List, [], ◌∷◌, ◌++◌, ◌==◌, nat_le, slice_index, slice_index_or}

-- What is asked: the setup charge of a period, the unit price of making in one period for another, and each period's demand. Periods count from 1.
pub record Case : Type 0 where
  pub setup : ℕ → ℕ
  pub price : ℕ → ℕ → ℕ
  pub demand_of : ℕ → ℕ

-- The case of charges K, prices V and a list of demands; past the list nothing is asked.
abbrev pub case_of : (ℕ → ℕ) → (ℕ → ℕ → ℕ) → List ℕ → Case
case_of K V ds = record { setup = K; price = V; demand_of = λ i. slice_index ds (i - 1) }

-- Charges and prices in bounds, and no speculation: making one period later for the same use is never dearer.
pub record LawfulCosts (K : ℕ → ℕ) (V : ℕ → ℕ → ℕ) : Type 0 where
  pub charged : (j : ℕ) → 1 ≤ j → 1 ≤ K j
  pub charge_fits : (j : ℕ) → 1 ≤ j → K j ≤ 1000000000
  pub later : (j i : ℕ) → 1 ≤ j → j < i → V (suc j) i ≤ V j i
  pub price_fits : (j i : ℕ) → 1 ≤ j → j ≤ i → i - j ≤ 255 → V j i ≤ 1000000

-- A case is lawful where its charges and prices are.
abbrev pub Lawful : Case → Type 0
Lawful c = LawfulCosts c.setup c.price

-- The sum of f i over the periods i from a through b.
unfoldable pub over : (ℕ → ℕ) → ℕ → ℕ → ℕ
over f a zero = 0
over f a (suc b) = over f a b + cond (nat_le a (suc b)) (f (suc b)) 0

-- What one lot costs that is made in a for all demand of a through b.
unfoldable pub lot_cost : Case → ℕ → ℕ → ℕ
lot_cost c a b = c.setup a + over (λ i. c.demand_of i * c.price a i) a b

-- What option j of period t costs, where g has the least costs before t: option 0 makes nothing, any other sets up in j for j through t.
unfoldable pub option : Case → (ℕ → ℕ) → ℕ → ℕ → ℕ
option c g t zero = 0
option c g t (suc j) = g j + lot_cost c (suc j) t

-- Of s and 1 through n, the largest at which o is least.
unfoldable pub pick : (ℕ → ℕ) → ℕ → ℕ → ℕ
pick o s zero = s
pick o s (suc n) = cond (nat_le (o (suc n)) (o (pick o s n))) (suc n) (pick o s n)

-- The smallest option of period t: 0 while nothing was asked through t, and 1 from then on.
unfoldable pub first_option : Case → ℕ → ℕ
first_option c t = cond (over c.demand_of 1 t == 0) 0 1

-- The option that is chosen for period t, where g has the least costs before t.
unfoldable pub choice : Case → (ℕ → ℕ) → ℕ → ℕ
choice c g t = pick (option c g t) (first_option c t) t

-- The table of the least costs of 0 through t periods.
unfoldable pub values : Case → ℕ → List ℕ
values c zero = 0 ∷ []
values c (suc t) =
    let vs : List ℕ = values c t in
    let g : ℕ → ℕ = λ j. slice_index_or vs j 0 in
    vs ++ (option c g (suc t) (choice c g (suc t)) ∷ [])

-- G(t): the least cost of t periods.
unfoldable pub least : Case → ℕ → ℕ
least c t = slice_index (values c t) t

-- l(t): the last setup of t periods, the largest option of least cost; 0 where nothing is made.
unfoldable pub last : Case → ℕ → ℕ
last c t = choice c (least c) t

-- A lot is made in its first period for all periods through its last.
pub record Lot : Type 0 where
  pub from : ℕ
  pub through : ℕ
  pub amount : ℕ
  pub costs : ℕ

-- The lot of a case for the periods a through b.
unfoldable pub lot : Case → ℕ → ℕ → Lot
lot c a b = record { from = a; through = b; amount = over c.demand_of a b; costs = lot_cost c a b }

-- One step of reading a plan back: none without a last setup, else the plan before it and the lot from it through n.
unfoldable pub follow : Case → (ℕ → List Lot) → ℕ → ℕ → List Lot
follow c r n zero = []
follow c r n (suc j) = r j ++ (lot c (suc j) n ∷ [])

-- The plan of n periods in at most k steps.
unfoldable pub plan_by : Case → ℕ → ℕ → List Lot
plan_by c zero n = []
plan_by c (suc k) n = follow c (plan_by c k) n (last c n)

-- The plan of n periods as lots, from last setup to last setup; n steps always suffice.
unfoldable pub plan : Case → ℕ → List Lot
plan c n = plan_by c n n
