-- The one check of dated lines: how many there are, how their dates run, and what their own amounts earn.
use Rattle.std.specs.Prelude.{ℕ, Bool, true, cond, ◌&&◌, ◌||◌, List, [], ◌∷◌, length, Some, None, Option, ◌==◌, nat_le, nat_lt}
use Rattle.std.specs.Option.{option_map, option_or}
use Rattle.lots.specs.declared.dated.FirstDate.{FirstDate}
use Rattle.lots.specs.declared.dated.FirstDate.TheVariants.{Exactly, AtLeast}
use Rattle.lots.specs.declared.dated.DatedFault.{DatedFault}
use Rattle.lots.specs.declared.dated.DatedFault.TheVariants.{Count, Dates, Line}

-- whether the first line may have this date
abbrev pub first_allowed : FirstDate → ℕ → Bool
first_allowed (Exactly d) date = date == d
first_allowed (AtLeast d) date = nat_le d date

-- whether each of these lines has a later date than the line before it, the first a later one than `last`
abbrev pub rises_behind : {L : Type 0} → (L → ℕ) → ℕ → List L → Bool
rises_behind date last [] = true
rises_behind date last (x ∷ xs) = nat_lt last (date x) && rises_behind date (date x) xs

-- whether the dates are right: the first is allowed, and they rise
abbrev pub are_dates_right : {L : Type 0} → (L → ℕ) → FirstDate → List L → Bool
are_dates_right date first [] = true
are_dates_right date first (x ∷ xs) = first_allowed first (date x) && rises_behind date (date x) xs

-- what the first line earns that earns anything
abbrev pub earned_first : {L E : Type 0} → (L → Option E) → List L → Option E
earned_first earned [] = None
earned_first earned (x ∷ xs) = option_or (earned x) (earned_first earned xs)

-- why these lines are refused: for their count, else for their dates, else for what a line earns
abbrev pub dated_fault : {L E : Type 0} → (L → ℕ) → (L → Option E) → ℕ → ℕ → FirstDate → List L → Option (DatedFault E)
dated_fault date earned fewest most first lines =
    cond (nat_lt (length lines) fewest || nat_lt most (length lines)) (Some Count)
    (cond (are_dates_right date first lines) (option_map Line (earned_first earned lines)) (Some Dates))

-- the number by which each refusal is told, where `line` numbers what a line earns
abbrev pub dated_number : {E : Type 0} → (E → ℕ) → DatedFault E → ℕ
dated_number line Count = 4
dated_number line Dates = 5
dated_number line (Line e) = line e
