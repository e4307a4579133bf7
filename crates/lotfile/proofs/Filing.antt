-- The bytes of a file, word after word and lot after lot.
use Rattle.std.proofs.Common.{◌≡◌, ℕ, suc, ◌+◌, ◌<◌, List, [], ◌∷◌, ◌++◌, map, length, get_or, take, sym, refl, ap, ◌∙◌, arith}
use lib.ListN.{length-map}
use Rattle.std.proofs.lemmas.List.{map_more}
use Rattle.std.proofs.lemmas.List.Concat.{flat_map-append}
use Rattle.std.specs.List.{flat_map}
use Rattle.lots.specs.declared.lot.Lot.{Lot}
use Rattle.lots.specs.declared.word.Word.{Word}
use Rattle.lots.specs.declared.word.WordKind.{WordKind}
use Rattle.lots.specs.Lots.{Terms, terms}
use Rattle.lots.specs.Words.{word_bytes}
use Rattle.lotfile.specs.LotWords.{pairs, words_of_lot, end_words, words_bytes, file_bytes}

-- the bytes of each word, one after another
pub words_flat :
    (ws : List Word) (bs : List (List ℕ)) → length bs ≡ length ws
    → ((i : ℕ) (w : Word) (b : List ℕ) → i < length ws → get_or bs i b ≡ word_bytes (get_or ws i w).kind (get_or ws i w).number)
    → flat_map (λ x. x) bs ≡ words_bytes (pairs ws)
words_flat [] [] l h = refl
words_flat [] (b ∷ bs) l h = absurd (omega (arith, l))
words_flat (w ∷ ws) [] l h = absurd (omega (arith, l))
words_flat (w ∷ ws) (b ∷ bs) l h =
    ap (λ x. x ++ flat_map (λ x. x) bs) (h 0 w b (omega arith))
    ∙ ap (λ xs. word_bytes w.kind w.number ++ xs) (words_flat ws bs (omega (arith, l)) (λ i v c k. h (suc i) v c (omega arith)))

words_append : (a b : List (WordKind × ℕ)) → words_bytes (a ++ b) ≡ words_bytes a ++ words_bytes b
words_append a b = flat_map-append (λ w. word_bytes w.0 w.1) a b

-- the bytes of the lots so far
abbrev pub lots_bytes : List Lot → List ℕ
lots_bytes ls = words_bytes (flat_map words_of_lot (map terms ls))

pub lots_pushed :
    (was more bs : List ℕ) (ls : List Lot) (i : ℕ) (z y : Lot) → i < length ls → was ≡ lots_bytes (take i ls) → y ≡ get_or ls i z
    → bs ≡ words_bytes (words_of_lot (terms y)) → more ≡ was ++ bs → more ≡ lots_bytes (take (i + 1) ls)
lots_pushed was more bs ls i z y h v e q m =
    let ts : List Terms = map terms (take i ls) in
    let one : map terms (take (i + 1) ls) ≡ ts ++ terms y ∷ [] = map_more terms ls i z h ∙ ap (λ x. ts ++ terms x ∷ []) (sym e) in
    m ∙ ap (λ xs. xs ++ bs) v ∙ ap (λ xs. lots_bytes (take i ls) ++ xs) q
    ∙ sym (words_append (flat_map words_of_lot ts) (words_of_lot (terms y)))
    ∙ ap words_bytes (sym (flat_map-append words_of_lot ts (terms y ∷ [])))
    ∙ ap (λ xs. words_bytes (flat_map words_of_lot xs)) (sym one)

pub file_ended :
    (was more bs : List ℕ) (ls : List Lot) → was ≡ lots_bytes ls → bs ≡ words_bytes (end_words (length ls)) → more ≡ was ++ bs
    → more ≡ file_bytes (map terms ls)
unfolding file_bytes
file_ended was more bs ls v q m =
    m ∙ ap (λ xs. xs ++ bs) v ∙ ap (λ xs. lots_bytes ls ++ xs) (q ∙ ap (λ n. words_bytes (end_words n)) (sym (length-map ls terms)))
    ∙ sym (words_append (flat_map words_of_lot (map terms ls)) (end_words (length (map terms ls))))
