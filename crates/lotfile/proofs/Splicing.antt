-- Bytes put into a buffer at a place.
use Rattle.std.proofs.Common.{◌≡◌, ℕ, ◌+◌, ◌-◌, ◌*◌, List, [], ◌∷◌, ◌++◌, length, take, drop, None, Option, sym, refl, ap, ◌∙◌, arith}
use borrow.Rule.Slice.PartMut.{put_mid}
use Rattle.std.proofs.lemmas.List.{drop-drop, length-append}
use Rattle.lots.specs.declared.word.WordKind.{WordKind}
use Rattle.lots.specs.Words.{word_bytes}
use Rattle.lotfile.specs.LotWords.{words_bytes}
use Rattle.lotfile.specs.declared.fault.WriteFault.{WriteFault}
use Rattle.lotfile.specs.Writing.{spliced, after}

length_word : (k : WordKind) (n : ℕ) → length (word_bytes k n) ≡ 4
unfolding word_bytes
length_word k n = refl

pub length_words : (ws : List (WordKind × ℕ)) → length (words_bytes ws) ≡ 4 * length ws
length_words [] = refl
length_words (w ∷ ws) = omega (arith, length-append (word_bytes w.0 w.1) (words_bytes ws), length_word w.0 w.1, length_words ws)

put_spliced : (b : List ℕ) (at k : ℕ) (ys : List ℕ) → length ys ≡ k → put_mid at k b ys ≡ spliced b at ys
unfolding spliced
put_spliced b at k ys h = ap (λ t. take at b ++ (ys ++ t)) (drop-drop k at b ∙ ap (λ n. drop (at + n) b) (sym h))

-- where nothing is refused, words written at their range are those at the place
pub written :
    (refused : Option WriteFault) (b : List ℕ) (place start end : ℕ) (new : List ℕ) (ws : List (WordKind × ℕ)) → refused ≡ None → start ≡ place → end ≡ place + 4 * length ws
    → new ≡ words_bytes ws → put_mid start (end - start) b new ≡ after refused b place (words_bytes ws)
written refused b place start end new ws n s l e =
    put_spliced b start (end - start) new (omega (arith, ap length e, length_words ws)) ∙ ap (λ p. spliced b p new) s ∙ ap (spliced b place) e
    ∙ ap (λ r. after r b place (words_bytes ws)) (sym n)
