-- Items in groups of one size.
use Rattle.std.specs.Prelude.{ℕ, ◌/◌, ◌%◌, List, length, Ok, Err, Result, if◌then◌else◌, ◌==◌}
use Rattle.std.specs.Simd.{first_chunks}
use Rattle.clib.specs.declared.error.Refusal.{Refusal}
use Rattle.clib.specs.declared.error.Refusal.TheVariants.{Layout}

-- the groups of n items that a list makes, if no item is left over
abbrev pub groups_due : {X : Type 0} → ℕ → List X → Result (List (List X)) Refusal
groups_due n xs = if length xs % n == 0 then Ok (first_chunks n (length xs / n) xs) else Err Layout
