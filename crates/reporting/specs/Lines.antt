-- The lines that are printed, each with a line feed behind it.
use Rattle.std.specs.Prelude.{ℕ, List, [], ◌∷◌, ◌++◌, codes, decimal}
use Rattle.lots.specs.Lots.{Terms}
use Rattle.lots.specs.declared.lot.LotKind.{LotKind}
use Rattle.lots.specs.declared.lot.LotKind.TheVariants.{Frozen, Closing}

abbrev pub word_of_kind : LotKind → List ℕ
word_of_kind Frozen = codes "frozen"
word_of_kind Closing = codes "closing"

-- a number with a space in front
abbrev pub spaced : ℕ → List ℕ
spaced n = 32 ∷ decimal n

-- a lot by its kind, its first and last period, its amount, its cost and its evidence
abbrev pub lot_line : Terms → List ℕ
lot_line y =
    word_of_kind y.kind ++ (spaced y.from ++ (spaced y.through ++ (spaced y.amount ++ (spaced y.cost ++ (spaced y.evidence ++ 10 ∷ [])))))

abbrev pub total_line : ℕ → List ℕ
total_line n = codes "total" ++ (spaced n ++ 10 ∷ [])

abbrev pub line_of_refusal : ℕ → ℕ → List ℕ
line_of_refusal number place = codes "refused" ++ (spaced number ++ (codes " at" ++ (spaced place ++ 10 ∷ [])))
