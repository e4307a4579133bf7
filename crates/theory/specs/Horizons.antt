-- What the regeneration set promises of every later horizon: the statements.
use Rattle.std.specs.Prelude.{◌≡◌, ℕ, suc, ◌+◌, ◌-◌, ◌<◌, ◌≤◌, ◌⊎◌, List, [], ◌∷◌, ◌++◌, length, take, Some, None}
use Rattle.theory.specs.Recursion.{Case, case_of, LawfulCosts, Lawful, Lot, over, option, lot, least, last, plan}
use Rattle.theory.specs.Regeneration.{Alike, next, after, end_of, proves, Proved}

-- Whatever demands cs follow the first t, every plan from t on begins with the plan of a horizon of the regeneration set of t.
abbrev pub LaterPlansPassThroughTheSet : Type 0
LaterPlansPassThroughTheSet =
    (K : ℕ → ℕ) (V : ℕ → ℕ → ℕ) (ds cs : List ℕ) (t n : ℕ) → LawfulCosts K V → t ≤ length ds → t ≤ n → 1 ≤ last (case_of K V ds) t →
    (h : ℕ) × (rest : List Lot) × (last (case_of K V ds) t ≤ suc h) × (h ≤ t) ×
    (plan (case_of K V (take t ds ++ cs)) n ≡ plan (case_of K V ds) h ++ rest)

-- The test finds a lot exactly where it is proved.
abbrev pub TestDecidesProved : Type 0
TestDecidesProved = (c : Case) (b t : ℕ) (y : Lot) → (proves c b t ≡ Some y → Proved c b t y) × (Proved c b t y → proves c b t ≡ Some y)

-- Every horizon of the regeneration set, which is not empty, has a next lot after b, and all these are made in a for the periods through z.
pub record HorizonsAgree (c : Case) (b t a z : ℕ) : Type 0 where
  pub some : 1 ≤ last c t
  pub all : (h : ℕ) → last c t ≤ suc h → h ≤ t → (y : Lot) × (next b (plan c h) ≡ Some y) × (y.from ≡ a) × (y.through ≡ z)

-- A lot is proved exactly where the horizons agree on its first and last period: they then agree on all of it.
abbrev pub ProvedWhereHorizonsAgree : Type 0
ProvedWhereHorizonsAgree =
    (c : Case) (b t : ℕ) →
    ((a z : ℕ) → HorizonsAgree c b t a z → Proved c b t (lot c a z)) ×
    ((y : Lot) → Proved c b t y → HorizonsAgree c b t y.from y.through)

-- A lot is the recursion's own: made in the last setup of its through period for all demand from there on, at what G grows by.
pub record OwnLot (c : Case) (y : Lot) : Type 0 where
  pub is_lot : y ≡ lot c y.from y.through
  pub set_up : last c y.through ≡ y.from
  pub growth : least c y.through ≡ least c (y.from - 1) + y.costs

-- The next lot of a plan begins after b, ends with the plan or sooner, and is the recursion's own.
abbrev pub NextLotIsTheRecursionsOwn : Type 0
NextLotIsTheRecursionsOwn =
    (c : Case) (b n : ℕ) (y : Lot) → next b (plan c n) ≡ Some y →
    (b < y.from) × (y.from ≤ y.through) × (y.through ≤ n) × OwnLot c y

-- A proved lot is the recursion's own too; it begins after the base and ends before its evidence.
abbrev pub ProvedLotEndsBeforeItsEvidence : Type 0
ProvedLotEndsBeforeItsEvidence =
    (c : Case) (b t : ℕ) (y : Lot) → Proved c b t y →
    (b < y.from) × (y.from ≤ y.through) × (y.through < t) × OwnLot c y

-- A plan's next lot is that of the plan before its last setup, or else the lot from there if that is made after b.
abbrev pub NextLotFollowsTheSetups : Type 0
NextLotFollowsTheSetups =
    (c : Case) (b n j : ℕ) → last c n ≡ suc j →
    ((y : Lot) → next b (plan c j) ≡ Some y → next b (plan c n) ≡ Some y) ×
    (next b (plan c j) ≡ None → b < suc j → next b (plan c n) ≡ Some (lot c (suc j) n)) ×
    (next b (plan c j) ≡ None → suc j ≤ b → next b (plan c n) ≡ None)

-- The lots of a plan after b come one by one: the next lot, and then those after its through period.
abbrev pub RestComesLotByLot : Type 0
RestComesLotByLot =
    (c : Case) (n b : ℕ) →
    (next b (plan c n) ≡ None → after b (plan c n) ≡ []) ×
    ((y : Lot) → next b (plan c n) ≡ Some y → after b (plan c n) ≡ y ∷ after y.through (plan c n))

-- Lots are settled after t periods where, whatever follows, every plan from the regeneration set on begins with them.
pub record Settled (c : Case) (t : ℕ) (ys : List Lot) : Type 0 where
  pub begins : (e : Case) → Lawful e → Alike c e t → (m : ℕ) → last c t ≤ suc m → (rest : List Lot) × (plan e m ≡ ys ++ rest)

-- No lot is settled at first, reading on keeps what is settled, and a proved lot may join it.
pub record Settling (c : Case) : Type 0 where
  pub none : (t : ℕ) → Settled c t []
  pub read : (t : ℕ) (ys : List Lot) → Settled c t ys → Settled c (suc t) ys
  pub take : (t : ℕ) (ys : List Lot) (y : Lot) → Settled c t ys → Proved c (end_of 0 ys) t y → Settled c t (ys ++ (y ∷ []))

-- Freezing lot after lot as each is proved keeps them settled.
abbrev pub FrozenLotsStaySettled : Type 0
FrozenLotsStaySettled = (c : Case) → Lawful c → Settling c

-- With lots settled through the base b, each horizon from the set on, whatever follows, reaches b, and past b its last setup is past b too.
pub record AheadOf (b : ℕ) (e : Case) (m : ℕ) : Type 0 where
  pub reaches : b ≤ m
  pub sets_up_after : b < m → (last e m ≡ 0) ⊎ (b < last e m)

-- Options at or before the base never win again.
abbrev pub OptionsUpToTheBaseNeverWin : Type 0
OptionsUpToTheBaseNeverWin =
    (c e : Case) (t : ℕ) (ys : List Lot) → Settled c t ys → Lawful e → Alike c e t → (m : ℕ) → last c t ≤ suc m → AheadOf (end_of 0 ys) e m

-- Of the setups after b for period t, j costs least, and every later one more.
pub record BestAfter (b : ℕ) (c : Case) (t j : ℕ) : Type 0 where
  pub past : b < j
  pub within : j ≤ t
  pub at_most : (i : ℕ) → b < i → i ≤ t → option c (least c) t j ≤ option c (least c) t i
  pub later_dearer : (i : ℕ) → j < i → i ≤ t → option c (least c) t j < option c (least c) t i

-- Where the last setup is after b, the setups after b alone tell it and the least cost.
abbrev pub WindowTellsTheLastSetup : Type 0
WindowTellsTheLastSetup =
    (c : Case) (b t j : ℕ) → b < last c t → BestAfter b c t j → (last c t ≡ j) × (least c t ≡ option c (least c) t j)

-- With lots settled after t periods, the setups after their end alone give the next period's last setup and least cost, once anything was asked.
abbrev pub WindowGivesTheNextRow : Type 0
WindowGivesTheNextRow =
    (c : Case) → Lawful c → (t : ℕ) (ys : List Lot) → Settled c t ys → 1 ≤ over c.demand_of 1 (suc t) →
    (j : ℕ) → BestAfter (end_of 0 ys) c (suc t) j → (last c (suc t) ≡ j) × (least c (suc t) ≡ option c (least c) (suc t) j)
