-- Words that were written are read back, and bytes that were read are written back.
use Rattle.std.proofs.Common.{◌≡◌, ℕ, ◌+◌, ◌*◌, ◌/◌, ◌%◌, ◌<◌, ◌⊎◌, [], ◌∷◌, sym, refl, ap, ◌∙◌, ⊎_elim, arith}
use Rattle.std.proofs.lemmas.Nat.{shr-shr, div-add-mod', div-mul-add, mod-mul-add}
use Rattle.lots.specs.declared.word.WordKind.{WordKind}
use Rattle.lots.specs.declared.word.WordKind.TheVariants.{Zero, One, Two, Three}
use Rattle.lots.specs.Words.{kind_bits, kind_of, word_bits, word_kind, number_of_word, bits_bytes, word_bytes, WordsReadBack}

-- the four bytes hold all of the 32 bits
whole : (v : ℕ) → v < 4294967296 → word_bits (bits_bytes v) ≡ v
whole v h =
    let two : v / 256 / 256 ≡ v / 65536 = shr-shr v 8 8 in
    let three : v / 65536 / 256 ≡ v / 16777216 = shr-shr v 16 8 in
    let low = div-add-mod' v 256 in
    let mid = div-add-mod' (v / 256) 256 in
    let high = div-add-mod' (v / 65536) 256 in
    let top : v / 16777216 % 256 ≡ v / 16777216 = omega arith in
    omega arith

kind_low : (k : WordKind) → kind_bits k < 4
kind_low Zero = omega arith
kind_low One = omega arith
kind_low Two = omega arith
kind_low Three = omega arith

kind_back : (k : WordKind) → kind_of (kind_bits k) ≡ k
kind_back Zero = refl
kind_back One = refl
kind_back Two = refl
kind_back Three = refl

bits_back : (b : ℕ) → b < 4 → kind_bits (kind_of b) ≡ b
bits_back b h =
    ⊎_elim (λ e. ap (λ x. kind_bits (kind_of x)) e ∙ sym e)
    (⊎_elim (λ e. ap (λ x. kind_bits (kind_of x)) e ∙ sym e)
    (⊎_elim (λ e. ap (λ x. kind_bits (kind_of x)) e ∙ sym e)
    (λ e. ap (λ x. kind_bits (kind_of x)) e ∙ sym e)))
    (one_of_four b h)
  where
    one_of_four : (b : ℕ) → b < 4 → (b ≡ 0) ⊎ ((b ≡ 1) ⊎ ((b ≡ 2) ⊎ (b ≡ 3)))
    one_of_four b h = grind arith

module _ (k : WordKind) (n : ℕ) (h : n < 1073741824) where
  fits : kind_bits k * 1073741824 + n < 4294967296
  fits = omega (arith, kind_low k)

  top : (kind_bits k * 1073741824 + n) / 1073741824 ≡ kind_bits k
  top = div-mul-add (kind_bits k) 1073741824 n h

  rest : (kind_bits k * 1073741824 + n) % 1073741824 ≡ n
  rest = mod-mul-add (kind_bits k) 1073741824 n h

-- the bytes of the bits that four bytes are
bytes_back : (a b c d : ℕ) → a < 256 → b < 256 → c < 256 → d < 256 → bits_bytes (word_bits (a ∷ b ∷ c ∷ d ∷ [])) ≡ a ∷ b ∷ c ∷ d ∷ []
bytes_back a b c d ha hb hc hd =
    let v : ℕ = a * 16777216 + b * 65536 + c * 256 + d in
    let w : v / 16777216 % 256 ≡ a = omega arith in
    let x : v / 65536 % 256 ≡ b = omega arith in
    let y : v / 256 % 256 ≡ c = omega arith in
    let z : v % 256 ≡ d = omega arith in
    λ j. w j ∷ x j ∷ y j ∷ z j ∷ []

pub words_read_back : WordsReadBack
unfolding word_kind number_of_word word_bytes
words_read_back = record {
  kind = λ k n h. ap (λ v. kind_of (v / 1073741824)) (whole _ (fits k n h)) ∙ ap kind_of (top k n h) ∙ kind_back k;
  number = λ k n h. ap (λ v. v % 1073741824) (whole _ (fits k n h)) ∙ rest k n h;
  bytes = λ a b c d ha hb hc hd.
      let v : ℕ = word_bits (a ∷ b ∷ c ∷ d ∷ []) in
      let low : v / 1073741824 < 4 = omega arith in
      ap (λ k. bits_bytes (k * 1073741824 + v % 1073741824)) (bits_back (v / 1073741824) low)
      ∙ ap bits_bytes (div-add-mod' v 1073741824)
      ∙ bytes_back a b c d ha hb hc hd;
}
