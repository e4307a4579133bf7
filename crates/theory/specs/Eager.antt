-- Eager planning: every proved lot is taken before the next period is read, until a read is refused.
use Rattle.std.specs.Prelude.{◌≡◌, ℕ, zero, suc, List, [], ◌∷◌, length, Some, None, Option}
use Rattle.theory.specs.Recursion.{Case, case_of, Lot}
use Rattle.theory.specs.Regeneration.{proves}
use Rattle.theory.specs.Endings.{Ending}
use Rattle.theory.specs.Series.{read_call, Handed, Refusal, none_proved, Answer, given_lot, accepted_read, refused_call, Entry, periods_read, taken, base, due_read, due_answer, Ran}

-- The lots taken, the periods read and the base at the end, and why no more was read.
pub record Outcome (F : Type 0) : Type 0 where
  pub lots : List Handed
  pub read : ℕ
  pub base : ℕ
  pub stop : Refusal F

-- An outcome with one more lot in front.
abbrev pub with_lot : {F : Type 0} → Handed → Outcome F → Outcome F
with_lot h o = record { lots = h ∷ o.lots; read = o.read; base = o.base; stop = o.stop }

-- The outcome where no more is read.
abbrev pub stopped : {F : Type 0} → ℕ → ℕ → Refusal F → Outcome F
stopped t b r = record { lots = []; read = t; base = b; stop = r }

-- What follows a read: a period more, or the end.
unfoldable pub after_read : {F : Type 0} → (ℕ → ℕ → Outcome F) → ℕ → ℕ → Answer F → Outcome F
after_read go t b (given_lot h) = stopped t b none_proved
after_read go t b (accepted_read proved) = go (suc t) b
after_read go t b (refused_call r) = stopped t b r

-- What follows with t periods read and the base b, where `now` is proved, and `then` will be with one period more.
unfoldable pub eager_step : {F : Type 0} → ℕ → Ending F → (ℕ → ℕ → Outcome F) → ℕ → ℕ → Option Lot → Option Lot → Outcome F
eager_step n ending go t b (Some y) then = with_lot (record { lot = y; evidence = t }) (go t y.through)
eager_step n ending go t b None then = after_read go t b (due_read n ending t b None then)

-- At most k calls more, over a case of n demands.
unfoldable pub eager_in : {F : Type 0} → Case → ℕ → Ending F → ℕ → ℕ → ℕ → Outcome F
eager_in c n ending zero t b = stopped t b none_proved
eager_in c n ending (suc k) t b = eager_step n ending (eager_in c n ending k) t b (proves c b t) (proves c b (suc t))

-- Eager planning of the demands ds from the first period on: 10,000 reads and as many takes are the most there can be.
abbrev pub eager : {F : Type 0} → (ℕ → ℕ) → (ℕ → ℕ → ℕ) → List ℕ → Ending F → Outcome F
eager K V ds ending = eager_in (case_of K V ds) (length ds) ending 20001 0 0

-- A series of reads and takes with this outcome: it took these lots and read these periods, and a read is then refused as told.
pub record RunTo {F : Type 0} (K : ℕ → ℕ) (V : ℕ → ℕ → ℕ) (ds : List ℕ) (ending : Ending F) (o : Outcome F) : Type 0 where
  pub es : List (Entry F)
  pub ran : Ran K V ds ending es
  pub took : taken es ≡ o.lots
  pub reads : periods_read es ≡ o.read
  pub ends : base es ≡ o.base
  pub refused : due_answer K V ds ending es read_call ≡ refused_call o.stop

-- Eager planning is a run, and so the law of whole runs holds for it.
abbrev pub EagerPlanningIsARun : Type 0 → Type 0
EagerPlanningIsARun F = (K : ℕ → ℕ) (V : ℕ → ℕ → ℕ) (ds : List ℕ) (ending : Ending F) → RunTo K V ds ending (eager K V ds ending)
