-- Order words as numbers of 32 bits: only which demands they tell. The feed that reads them says all else, as when words are refused.
use Rattle.std.specs.Prelude.{ℕ, ◌+◌, ◌-◌, ◌/◌, ◌%◌, ◌^◌, cond, List, [], ◌∷◌, ◌++◌, Some, None, Option, ◌==◌, nat_lt}

-- The kind of a word, its top two bits: 0 orders, 1 cancels, 2 opens a period, 3 ends.
abbrev pub word_kind : ℕ → ℕ
word_kind w = w / 2 ^ 30

-- The number in a word, its other bits.
abbrev pub word_number : ℕ → ℕ
word_number w = w % 2 ^ 30

-- The sum of the open period, if one is open, after a word that orders or cancels.
unfoldable pub booked : ℕ → Option ℕ → Option ℕ
booked w None = None
booked w (Some sum) = Some (cond (word_kind w == 0) (sum + word_number w) (sum - word_number w))

-- The demand of the open period, if one is open.
unfoldable pub closed : Option ℕ → List ℕ
closed None = []
closed (Some sum) = sum ∷ []

-- The demands that words tell, from the open period on: each once the word that opens the next period, or ends, has come.
unfoldable pub told_from : Option ℕ → List ℕ → List ℕ
told_from current [] = []
told_from current (w ∷ ws) =
    cond (nat_lt (word_kind w) 2) (told_from (booked w current) ws) (closed current ++ cond (word_kind w == 2) (told_from (Some 0) ws) [])

-- The demands that words tell.
abbrev pub word_demands : List ℕ → List ℕ
word_demands ws = told_from None ws
