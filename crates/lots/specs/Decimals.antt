-- Decimal numbers at the front of a text.
use Rattle.std.specs.Prelude.{◌≡◌, ℕ, ◌+◌, ◌-◌, ◌*◌, ◌^◌, ◌<◌, ◌≤◌, min, Bool, cond, ◌&&◌, ◌||◌, List, [], ◌++◌, length, Some, None, decimal, Option, ◌==◌, nat_le, nat_lt, slice_index, take_while, fold}
use Rattle.std.specs.Char.{is_ascii_digit}
use Rattle.lots.specs.declared.decimal.Numeral.{Numeral}

-- the decimal digits at the front
unfoldable pub digits_at : List ℕ → List ℕ
digits_at bs = take_while is_ascii_digit bs

-- what digits are worth behind digits that are worth n
unfoldable pub worth : ℕ → List ℕ → ℕ
worth n ds = fold (λ v c. v * 10 + (c - 48)) n ds

-- 1 to `most` digits, but never more than 19, with no 0 in front of others
unfoldable pub well_formed : ℕ → List ℕ → Bool
well_formed most ds = nat_lt 0 (length ds) && (nat_le (length ds) (min most 19) && (nat_lt 48 (slice_index ds 0) || length ds == 1))

-- the number that the digits at the front make, and how many they are
unfoldable pub number_at : ℕ → List ℕ → Option Numeral
number_at most bs =
    let ds : List ℕ = digits_at bs in
    cond (well_formed most ds) (Some (record { value = worth 0 ds; length = length ds })) None

-- what is known of every number that is read
pub record Bounded (most : ℕ) (bs : List ℕ) (n : Numeral) : Type 0 where
  pub value : n.value < 10 ^ most
  pub some : 1 ≤ n.length
  pub within : n.length ≤ length bs

-- the number right in front of the byte `stop`, and how many bytes both take
abbrev pub stopped : ℕ → List ℕ → Option Numeral → Option Numeral
stopped stop bs None = None
stopped stop bs (Some n) =
    cond (nat_lt n.length (length bs) && slice_index bs n.length == stop) (Some (record { value = n.value; length = n.length + 1 })) None

unfoldable pub field_at : ℕ → ℕ → List ℕ → Option Numeral
field_at most stop bs = stopped stop bs (number_at most bs)

-- a number that was written is read back, whatever follows it but another digit
abbrev pub ReadsBack : Type 0
ReadsBack =
    (n most : ℕ) (rest : List ℕ) → n < 10 ^ most → 1 ≤ most → most ≤ 19 → digits_at rest ≡ [] →
    number_at most (decimal n ++ rest) ≡ Some (record { value = n; length = length (decimal n) })
