-- What a cost model answers when it is asked.
use Rattle.std.specs.Prelude.{ℕ, ◌-◌, Bool, cond, ◌||◌, Some, None, Option, ◌==◌, nat_lt}

-- the charge of a setup in period j: none for period 0
abbrev pub setup_told : (ℕ → ℕ) → ℕ → Option ℕ
setup_told K j = cond (j == 0) None (Some (K j))

-- no price is told for making in period 0, for use before making, or for use more than 255 periods after it
abbrev pub unpriced : ℕ → ℕ → Bool
unpriced j i = j == 0 || (nat_lt i j || nat_lt 255 (i - j))

-- the price of a unit by the period j that makes it and the period i that uses it
abbrev pub price_told : (ℕ → ℕ → ℕ) → ℕ → ℕ → Option ℕ
price_told V j i = cond (unpriced j i) None (Some (V j i))
