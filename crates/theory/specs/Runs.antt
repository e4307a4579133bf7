-- The law of whole runs: what every series of calls, as recorded, promises in the subject's words.
use Rattle.std.specs.Prelude.{◌≡◌, ℕ, suc, ◌+◌, ◌-◌, ◌<◌, ◌≤◌, true, false, ◌⊎◌, List, [], ◌∷◌, ◌++◌, map, length, take, slice_index}
use Rattle.theory.specs.Recursion.{Case, case_of, LawfulCosts, Lot, plan}
use Rattle.theory.specs.Splittings.{cost, total, Cheapest, BeginsWith}
use Rattle.theory.specs.Regeneration.{Proved, Filled, after, end_of}
use Rattle.theory.specs.Horizons.{Settled}
use Rattle.theory.specs.Netting.{Receipt, Rising, nets, GreatestExcess}
use Rattle.theory.specs.Endings.{Ending, finished_feed, faulty_feed}
use Rattle.theory.specs.Series.{window_size, period_limit, Call, read_call, take_call, Handed, Refusal, none_proved, lot_waits, window_full, limit_reached, feed_ended, feed_faulty, Answer, given_lot, accepted_read, refused_call, Entry, periods_read, taken, lots, base, up_to, Ran, go_on, Rests, with_evidence}

-- No lot is proved after t periods with the base b.
abbrev pub Unproved : Case → ℕ → ℕ → Type 0
Unproved c b t = (y : Lot) → Proved c b t y → ⊥

-- Some lot is proved after t periods with the base b.
abbrev pub SomeProved : Case → ℕ → ℕ → Type 0
SomeProved c b t = (y : Lot) × Proved c b t y

-- A take hands out the lot that is proved, its evidence the periods read, and refuses only where none is proved.
abbrev pub TakeTells : {F : Type 0} → Case → ℕ → ℕ → Answer F → Type 0
TakeTells c b t (given_lot h) = Proved c b t h.lot × (h.evidence ≡ t)
TakeTells c b t (accepted_read proved) = ⊥
TakeTells c b t (refused_call r) = (r ≡ none_proved) × Unproved c b t

-- What each refusal of a read says, in the order of the tests, where n demands come before the ending.
abbrev pub RefusalTells : {F : Type 0} → Case → ℕ → Ending F → ℕ → ℕ → Refusal F → Type 0
RefusalTells c n ending b t none_proved = ⊥
RefusalTells c n ending b t lot_waits = SomeProved c b t
RefusalTells c n ending b t window_full = Unproved c b t × (t ≡ b + window_size)
RefusalTells c n ending b t limit_reached = Unproved c b t × (t < b + window_size) × (t ≡ period_limit)
RefusalTells c n ending b t feed_ended = Unproved c b t × (t < b + window_size) × (t < period_limit) × (t ≡ n) × (ending ≡ finished_feed)
RefusalTells c n ending b t (feed_faulty f) = Unproved c b t × (t < b + window_size) × (t < period_limit) × (t ≡ n) × (ending ≡ faulty_feed f)

-- A read is accepted only with no lot waiting, room in the window and a demand to come, and tells whether a lot is proved then.
abbrev pub ReadTells : {F : Type 0} → Case → ℕ → Ending F → ℕ → ℕ → Answer F → Type 0
ReadTells c n ending b t (given_lot h) = ⊥
ReadTells c n ending b t (accepted_read proved) =
    Unproved c b t × (t < b + window_size) × (t < period_limit) × (t < n) ×
    (proved ≡ true → SomeProved c b (suc t)) × (proved ≡ false → Unproved c b (suc t))
ReadTells c n ending b t (refused_call r) = RefusalTells c n ending b t r

-- What an answer says of the call that it was given to.
abbrev pub Tells : {F : Type 0} → Case → ℕ → Ending F → ℕ → ℕ → Call → Answer F → Type 0
Tells c n ending b t read_call answer = ReadTells c n ending b t answer
Tells c n ending b t take_call answer = TakeTells c b t answer

-- Lots in order after b, each ending before its evidence, which is at most the periods read r.
abbrev pub InOrder : ℕ → ℕ → List Handed → Type 0
InOrder r b [] = Unit {0}
InOrder r b (h ∷ hs) =
    (b < h.lot.from) × (h.lot.from ≤ h.lot.through) × (h.lot.through < h.evidence) × (h.evidence ≤ r) × InOrder r h.lot.through hs

-- With t periods read of n and the base b: no demand is read that is not there, nor more than the limits allow.
pub record WithinLimits (n t b : ℕ) : Type 0 where
  pub demands : t ≤ n
  pub most : t ≤ period_limit
  pub window : t ≤ b + window_size
  pub behind : b ≤ t

-- The first list begins the second.
abbrev pub Front : List Handed → List Handed → Type 0
Front xs ys = (rest : List Handed) × (ys ≡ xs ++ rest)

-- Two series, one of r periods and one of r', are alike through t: in charges and prices, and in each demand up to t that both read.
pub record AlikeAsRead (K K' : ℕ → ℕ) (V V' : ℕ → ℕ → ℕ) (ds ds' : List ℕ) (r r' t : ℕ) : Type 0 where
  pub setups : (j : ℕ) → 1 ≤ j → j ≤ t → K j ≡ K' j
  pub prices : (j i : ℕ) → 1 ≤ j → j ≤ i → i ≤ t → V j i ≡ V' j i
  pub demands : (i : ℕ) → 1 ≤ i → i ≤ t → i ≤ r → i ≤ r' → slice_index ds (i - 1) ≡ slice_index ds' (i - 1)

-- One of two lists of lots begins the other, and they are the same where both series, of r and r' periods, read past t.
pub record AgreePast (t r r' : ℕ) (hs hs' : List Handed) : Type 0 where
  pub begins : Front hs hs' ⊎ Front hs' hs
  pub same : t < r → t < r' → hs ≡ hs'

-- The sum of the amounts of lots.
unfoldable pub amounts : List Lot → ℕ
amounts [] = 0
amounts (y ∷ ys) = y.amount + amounts ys

-- Emptying hands out just the lots of the plan of t that are made after b, each with the evidence t.
abbrev pub EmptyingHandsOutTheRest : Type 0
EmptyingHandsOutTheRest =
    (c : Case) (t b : ℕ) (hs : List Handed) →
    (Rests c t b hs → hs ≡ with_evidence t (after b (plan c t))) × (hs ≡ with_evidence t (after b (plan c t)) → Rests c t b hs)

module _ {F : Type 0} (K : ℕ → ℕ) (V : ℕ → ℕ → ℕ) (ds : List ℕ) (ending : Ending F) (es : List (Entry F)) where
  -- Each answer says what is so at its place.
  abbrev pub AnswersTellTheTruth : Type 0
  AnswersTellTheTruth =
      (before later : List (Entry F)) (e : Entry F) → es ≡ before ++ (e ∷ later) →
      Tells (case_of K V ds) (length ds) ending (base before) (periods_read before) e.call e.answer

  -- Whatever demands cs follow those read, some cheapest plan begins with the lots taken.
  abbrev pub FreezingIsRight : Type 0
  FreezingIsRight =
      (cs : List ℕ) →
      let e : Case = case_of K V (take (periods_read es) ds ++ cs) in
      (x : ℕ → ℕ → ℕ) × Cheapest e x (periods_read es + length cs) × BeginsWith e (lots (taken es)) x

  -- Of the lots with evidence of at most t, this series and any other that is alike through t took the same, as far as both went.
  abbrev pub AgreesWithOthers : Type 0
  AgreesWithOthers =
      (K' : ℕ → ℕ) (V' : ℕ → ℕ → ℕ) (ds' : List ℕ) (ending' : Ending F) (es' : List (Entry F)) → Ran K' V' ds' ending' es' →
      (t : ℕ) → AlikeAsRead K K' V V' ds ds' (periods_read es) (periods_read es') t →
      AgreePast t (periods_read es) (periods_read es') (up_to t (taken es)) (up_to t (taken es'))

  -- The lots ys are the plan of the periods read, cost just what the cheapest plan of any kind does, and none is empty.
  pub record Emptied (ys : List Lot) : Type 0 where
    pub is_plan : ys ≡ plan (case_of K V ds) (periods_read es)
    pub x : ℕ → ℕ → ℕ
    pub cheapest : Cheapest (case_of K V ds) x (periods_read es)
    pub costs : total ys ≡ cost (case_of K V ds) x (periods_read es)
    pub filled : Filled ys

  -- Where the demands are netted, the first of the lots ys, however many, hold the greatest excess of gross demand up to their end.
  abbrev pub LotsHoldTheExcess : List Lot → Type 0
  LotsHoldTheExcess ys =
      (stock : ℕ) (receipts : List Receipt) (gross : List ℕ) → Rising 0 receipts → ds ≡ nets stock receipts gross (length gross) →
      (first rest : List Lot) → ys ≡ first ++ rest → GreatestExcess stock receipts gross (end_of 0 first) (amounts first)

  -- The law of whole runs: of a series, and of the closing lots that emptying handed out behind it.
  pub record WholeRun (closing : List Handed) : Type 0 where
    pub answers : AnswersTellTheTruth
    pub limits : WithinLimits (length ds) (periods_read es) (base es)
    pub order : InOrder (periods_read es) 0 (taken es)
    pub freezing : FreezingIsRight
    pub rests : Rests (case_of K V ds) (periods_read es) (base es) closing
    pub emptied : Emptied (lots (taken es) ++ lots closing)
    pub excess : LotsHoldTheExcess (lots (taken es) ++ lots closing)
    pub agreement : AgreesWithOthers

module _ (F : Type 0) where
  -- A property of every series that was run at lawful costs.
  abbrev OfEveryRun : ((K : ℕ → ℕ) (V : ℕ → ℕ → ℕ) (ds : List ℕ) → Ending F → List (Entry F) → Type 0) → Type 0
  OfEveryRun P =
      (K : ℕ → ℕ) (V : ℕ → ℕ → ℕ) (ds : List ℕ) (ending : Ending F) (es : List (Entry F)) → LawfulCosts K V → Ran K V ds ending es → P K V ds ending es

  -- Any list of calls has exactly one record: the calls in order, each with the answer due.
  abbrev pub CallsHaveOneRecord : Type 0
  CallsHaveOneRecord =
      (K : ℕ → ℕ) (V : ℕ → ℕ → ℕ) (ds : List ℕ) (ending : Ending F) (calls : List Call) →
      let done : List (Entry F) = go_on K V ds ending [] calls in
      Ran K V ds ending done × (map (λ (e : Entry F). e.call) done ≡ calls) ×
      ((es : List (Entry F)) → Ran K V ds ending es → map (λ (e : Entry F). e.call) es ≡ calls → es ≡ done)

  -- The lots taken in a series are settled.
  abbrev pub TakenLotsAreSettled : Type 0
  TakenLotsAreSettled = OfEveryRun (λ K V ds ending es. Settled (case_of K V ds) (periods_read es) (lots (taken es)))

  -- Freezing is right for every continuation.
  abbrev pub FreezingIsAlwaysRight : Type 0
  FreezingIsAlwaysRight = OfEveryRun FreezingIsRight

  -- Any two series agree as far as they are alike.
  abbrev pub TwoSeriesAgree : Type 0
  TwoSeriesAgree =
      (K : ℕ → ℕ) (V : ℕ → ℕ → ℕ) (ds : List ℕ) (ending : Ending F) (es : List (Entry F)) → Ran K V ds ending es → AgreesWithOthers K V ds ending es

  -- Every series that was run at lawful costs, and then emptied, is a whole run.
  abbrev pub SeriesObeyTheLaw : Type 0
  SeriesObeyTheLaw =
      OfEveryRun (λ K V ds ending es.
      (closing : List Handed) → Rests (case_of K V ds) (periods_read es) (base es) closing → WholeRun K V ds ending es closing)
