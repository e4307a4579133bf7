-- Numbers of 32 bits, four bytes each, the most significant first.
use Rattle.std.specs.Prelude.{ℕ, ◌+◌, ◌*◌, List, map, Ok, Result, slice_index}
use Rattle.clib.specs.declared.error.Refusal.{Refusal}
use Rattle.clib.specs.Groups.{groups_due}
use Rattle.clib.specs.Outcomes.{and_then}

-- the number that four bytes are
abbrev pub number_of : List ℕ → ℕ
number_of bs = slice_index bs 0 * 16777216 + slice_index bs 1 * 65536 + slice_index bs 2 * 256 + slice_index bs 3

-- the numbers that bytes are, if no byte is left over
abbrev pub numbers_due : List ℕ → Result (List ℕ) Refusal
numbers_due bs = and_then (groups_due 4 bs) (λ gs. Ok (map number_of gs))
