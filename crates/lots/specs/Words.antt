-- Words of 32 bits: a kind in the top two, a number in the other 30; four bytes, the most significant first.
use Rattle.std.specs.Prelude.{◌≡◌, ℕ, ◌+◌, ◌*◌, ◌/◌, ◌%◌, ◌<◌, cond, List, [], ◌∷◌, ◌==◌, slice_index}
use Rattle.lots.specs.declared.word.WordKind.{WordKind}
use Rattle.lots.specs.declared.word.WordKind.TheVariants.{Zero, One, Two, Three}

-- a kind as the number that its two bits are, and back
abbrev pub kind_bits : WordKind → ℕ
kind_bits Zero = 0
kind_bits One = 1
kind_bits Two = 2
kind_bits Three = 3

abbrev pub kind_of : ℕ → WordKind
kind_of b = cond (b == 0) Zero (cond (b == 1) One (cond (b == 2) Two Three))

-- the 32 bits that the first four bytes are
abbrev pub word_bits : List ℕ → ℕ
word_bits bs = slice_index bs 0 * 16777216 + slice_index bs 1 * 65536 + slice_index bs 2 * 256 + slice_index bs 3

-- the kind and the number of the word that the first four bytes are
unfoldable pub word_kind : List ℕ → WordKind
word_kind bs = kind_of (word_bits bs / 1073741824)

unfoldable pub number_of_word : List ℕ → ℕ
number_of_word bs = word_bits bs % 1073741824

-- the four bytes of 32 bits
abbrev pub bits_bytes : ℕ → List ℕ
bits_bytes v = (v / 16777216 % 256) ∷ (v / 65536 % 256) ∷ (v / 256 % 256) ∷ (v % 256) ∷ []

-- the four bytes of a word
unfoldable pub word_bytes : WordKind → ℕ → List ℕ
word_bytes kind number = bits_bytes (kind_bits kind * 1073741824 + number)

-- a word that was written is read back, and four bytes that were read are written back
pub record WordsReadBack : Type 0 where
  pub kind : (k : WordKind) (n : ℕ) → n < 1073741824 → word_kind (word_bytes k n) ≡ k
  pub number : (k : WordKind) (n : ℕ) → n < 1073741824 → number_of_word (word_bytes k n) ≡ n
  pub bytes : (a b c d : ℕ) → a < 256 → b < 256 → c < 256 → d < 256 →
      let bs : List ℕ = a ∷ b ∷ c ∷ d ∷ [] in
      word_bytes (word_kind bs) (number_of_word bs) ≡ bs
