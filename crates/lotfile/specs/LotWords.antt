-- A lot file: each lot as six words, and at the end a word that counts them.
use Rattle.std.specs.Prelude.{ℕ, ◌/◌, ◌%◌, List, [], ◌∷◌, ◌++◌, map, length}
use Rattle.std.specs.List.{flat_map}
use Rattle.lots.specs.declared.lot.LotKind.{LotKind}
use Rattle.lots.specs.declared.lot.LotKind.TheVariants.{Frozen, Closing}
use Rattle.lots.specs.declared.word.Word.{Word}
use Rattle.lots.specs.declared.word.WordKind.{WordKind}
use Rattle.lots.specs.declared.word.WordKind.TheVariants.{Zero, One, Two, Three}
use Rattle.lots.specs.Lots.{Terms}
use Rattle.lots.specs.Words.{word_bytes}

-- the kind of a lot's first word: 1 for a frozen lot, 2 for a closing one
abbrev pub kind_of_lot : LotKind → WordKind
kind_of_lot Frozen = One
kind_of_lot Closing = Two

-- the six words of a lot, each a kind and a number; the cost takes two, by 2^30 and what is left over
abbrev pub words_of_lot : Terms → List (WordKind × ℕ)
words_of_lot y =
    (kind_of_lot y.kind, y.from) ∷ (Zero, y.through) ∷ (Zero, y.amount) ∷ (Zero, y.evidence)
    ∷ (Zero, y.cost / 1073741824) ∷ (Zero, y.cost % 1073741824) ∷ []

-- the word at the end: kind 3 and how many lots there are
abbrev pub end_words : ℕ → List (WordKind × ℕ)
end_words count = (Three, count) ∷ []

-- words as kinds and numbers, without the proof that the numbers fit
abbrev pub pairs : List Word → List (WordKind × ℕ)
pairs ws = map (λ w. (w.kind, w.number)) ws

-- the bytes of words, one word after another
abbrev pub words_bytes : List (WordKind × ℕ) → List ℕ
words_bytes ws = flat_map (λ w. word_bytes w.0 w.1) ws

-- the bytes of a whole file of lots
unfoldable pub file_bytes : List Terms → List ℕ
file_bytes lots = words_bytes (flat_map words_of_lot lots ++ end_words (length lots))
