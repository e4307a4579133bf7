-- What the recursion says, and that its plans are the cheapest of all: the statements.
use Rattle.std.specs.Prelude.{◌≡◌, ℕ, zero, suc, ◌+◌, ◌*◌, ◌<◌, ◌≤◌, cond, nat_le}
use Rattle.theory.specs.Recursion.{Case, Lawful, over, option, least, last, plan}
use Rattle.theory.specs.Splittings.{Serves, cost, made_by, total, Cheapest}
use Rattle.theory.specs.Regeneration.{Alike, end_of, Adjoins, Filled}

-- Period t has the option j: to make nothing while nothing was asked, or to set up in one of the periods 1 through t.
abbrev pub Offered : Case → ℕ → ℕ → Type 0
Offered c t zero = over c.demand_of 1 t ≡ 0
Offered c t (suc j) = j < t

-- G(t) is at most every option, l(t) attains it, and every option above l(t) costs more.
pub record RecursionLaws (c : Case) (G l : ℕ → ℕ) (t : ℕ) : Type 0 where
  pub at_most : (j : ℕ) → Offered c t j → G t ≤ option c G t j
  pub offered : Offered c t (l t)
  pub attained : G t ≡ option c G t (l t)
  pub later_dearer : (j : ℕ) → Offered c t j → l t < j → G t < option c G t j

-- The recursion obeys its laws.
abbrev pub RecursionObeysItsLaws : Type 0
RecursionObeysItsLaws = (c : Case) (t : ℕ) → RecursionLaws c (least c) (last c) t

-- Nothing else obeys them.
abbrev pub LawsFixTheRecursion : Type 0
LawsFixTheRecursion =
    (c : Case) (G l : ℕ → ℕ) → ((t : ℕ) → RecursionLaws c G l t) → (t : ℕ) → (G t ≡ least c t) × (l t ≡ last c t)

-- There is no last setup exactly while there was no demand.
abbrev pub NoSetupWithoutDemand : Type 0
NoSetupWithoutDemand =
    (c : Case) → Lawful c → (t : ℕ) → (last c t ≡ 0 → over c.demand_of 1 t ≡ 0) × (over c.demand_of 1 t ≡ 0 → last c t ≡ 0)

-- A period with no demand leaves the least cost and the last setup as they were.
abbrev pub IdlePeriodChangesNothing : Type 0
IdlePeriodChangesNothing =
    (c : Case) → Lawful c → (t : ℕ) → c.demand_of (suc t) ≡ 0 → (least c (suc t) ≡ least c t) × (last c (suc t) ≡ last c t)

-- What the recursion says of m periods rests on their charges, prices and demands alone.
abbrev pub RecursionRestsOnItsPeriods : Type 0
RecursionRestsOnItsPeriods =
    (c e : Case) (t m : ℕ) → Alike c e t → m ≤ t → (least c m ≡ least e m) × (last c m ≡ last e m) × (plan c m ≡ plan e m)

-- One period more never moves the last setup back.
abbrev pub LastSetupsNeverFall : Type 0
LastSetupsNeverFall = (c : Case) → Lawful c → (t : ℕ) → last c t ≤ last c (suc t)

-- However the demands are split over making periods, serving n periods costs at least G(n).
abbrev pub NoPlanIsCheaper : Type 0
NoPlanIsCheaper = (c : Case) → Lawful c → (n : ℕ) (x : ℕ → ℕ → ℕ) → Serves c x n → least c n ≤ cost c x n

-- A plan costs the charges of its making periods, and its units at their prices.
abbrev pub CostIsChargesAndUnits : Type 0
CostIsChargesAndUnits =
    (c : Case) (x : ℕ → ℕ → ℕ) (n : ℕ) →
    cost c x n ≡
    over (λ j. cond (nat_le 1 (over (x j) j n)) (c.setup j) 0) 1 n + over (λ j. over (λ i. x j i * c.price j i) j n) 1 n

-- The plan of n is cheapest and costs G(n), as its lots do together; after some periods with no demand its lots adjoin through n, none empty.
pub record CheapestLots (c : Case) (n : ℕ) : Type 0 where
  pub cheapest : Cheapest c (made_by c (plan c n)) n
  pub costs : cost c (made_by c (plan c n)) n ≡ least c n
  pub sums : total (plan c n) ≡ least c n
  pub filled : Filled (plan c n)
  pub idle : ℕ
  pub idles : over c.demand_of 1 idle ≡ 0
  pub adjoin : Adjoins idle (plan c n)
  pub through : end_of idle (plan c n) ≡ n

-- The plan of a horizon is a cheapest plan.
abbrev pub PlanIsCheapest : Type 0
PlanIsCheapest = (c : Case) → Lawful c → (n : ℕ) → CheapestLots c n
