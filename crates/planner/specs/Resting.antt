-- What a closed planner hands out.
use Rattle.std.specs.Prelude.{◌≡◌, ℕ, ◌≤◌, List, map, Some, None, Ok, Err, Option, Result}
use Rattle.lots.specs.Lots.{Terms, terms}
use Rattle.lots.specs.declared.lot.Lot.{Lot}
use Rattle.lots.specs.declared.lot.LotKind.TheVariants.{Closing}
use Rattle.theory.specs.Recursion as recursion
use Rattle.theory.specs.Regeneration.{next}
use Rattle.theory.specs.Series.{Rests}
use Rattle.planner.specs.declared.refusals.RestRefusal.{RestRefusal}
use Rattle.planner.specs.declared.refusals.RestRefusal.TheVariants.{NoneLeft}
use Rattle.planner.specs.Answers.{handed_lot}
use Rattle.planner.specs.Describing.{Window, reading, Describes}
use Rattle.planner.specs.Lots.{handed}
use Rattle.planner.specs.Standing.{Leaving}

-- a plan's next lot as closing, with the periods read as evidence, or the refusal that none is left
abbrev pub rest_of : ℕ → Option recursion.Lot → Result Terms RestRefusal
rest_of t None = Err NoneLeft
rest_of t (Some y) = Ok (handed Closing t y)

-- what a rest is due, with t periods read and lots handed out through a period
abbrev pub rest_due : recursion.Case → ℕ → ℕ → Result Terms RestRefusal
rest_due c t after = rest_of t (next after (recursion.plan c t))

-- what a rest told, in numbers
abbrev pub rest_told : Result Lot RestRefusal → Result Terms RestRefusal
rest_told (Ok y) = Ok (terms y)
rest_told (Err r) = Err r

-- where the lots handed out end then
abbrev pub rest_after : Result Lot RestRefusal → ℕ → ℕ
rest_after (Ok y) after = y.through
rest_after (Err r) after = after

-- a closed planner has moved on to this period, and is otherwise as it was
abbrev pub MovedOn : {F M : Type 0} → Leaving F M → ℕ → Leaving F M → Type 0
MovedOn p through q = (onward : p.rows.base ≤ through) × (q ≡ record p { after = through; onward = onward })

-- a rest tells what it is due, in every case that the window describes
abbrev pub TellsRest : Window → ℕ → Result Lot RestRefusal → Type 0
TellsRest w after told = (c : recursion.Case) → Describes c w → rest_told told ≡ rest_due c (reading w) after

-- these lots are all that is left, in every case that the window describes
abbrev pub EmptiesTo : Window → ℕ → List Lot → Type 0
EmptiesTo w after lots = (c : recursion.Case) → Describes c w → Rests c (reading w) after (map handed_lot lots)
