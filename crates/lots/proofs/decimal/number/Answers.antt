use Rattle.std.proofs.Common.{◌≡◌, ◌+◌, ◌*◌, ◌<◌, ◌≤◌, true, ◌⊎◌, [], get_or, drop, sym, ◌∙◌, subst, inl, inr, ⊎_elim, arith}
use Rattle.std.specs.Char.{is_ascii_digit}
use Rattle.std.proofs.lemmas.Bool.{cases_lt}
use Rattle.lots.specs.Decimals.{digits_at}
use Rattle.lots.proofs.Decimals.{Sofar, more, fits, in_digits, digits_end, digits_other, too_many, no_digit, leading_zero, number_is, number_told}
use Rattle.lots.proofs.decimal.number.Goals as goal
use Rattle.lots.proofs.decimal.number.Goals.{Left-loop-byte, else-loop-byte-test, then-loop-byte-test+then-not-is_ascii_digit, else-length-gt1-via-then-length-gt1+else-text-eq48, else-length-gt1-via-else-length-gt1}

pub returns-then-length-min : goal.returns-then-length-min
returns-then-length-min c =
    let i = c.loop-byte.invariant.0 in
    let many : (c.args.most ≤ c.loop-byte.length) ⊎ (19 ≤ c.loop-byte.length) =
    ⊎_elim (λ (l : c.args.most < 19). inl (omega (arith, c.min.ensures, c.if-length-min.true))) (λ (l : 19 ≤ c.args.most). inr (omega (arith, c.min.ensures, c.if-length-min.true))) (cases_lt c.args.most 19) in
    number_told _ _ _ (sym (too_many _ _ _ _ c.loop-byte.invariant.3 (rw i at c.loop-byte-test.true) (rw i at (sym c.is_ascii_digit.ensures.value ∙ c.if-not-is_ascii_digit.false)) many))

pub overflow_mul-value : goal.overflow_mul-value
overflow_mul-value c =
    let few : c.loop-byte.length ≤ 18 = omega (arith, c.if-length-min.false, c.min.ensures) in
    omega (arith, fits _ _ c.loop-byte.invariant.3.small few)

pub overflow_add-value : goal.overflow_add-value
overflow_add-value c =
    let digit : is_ascii_digit (get_or c.args.text.now c.loop-byte.byte-index 0) ≡ true = sym c.is_ascii_digit.ensures.value ∙ c.if-not-is_ascii_digit.false in
    let few : c.loop-byte.length ≤ 18 = omega (arith, c.if-length-min.false, c.min.ensures) in
    omega (arith, fits _ _ c.loop-byte.invariant.3.small few, in_digits (get_or c.args.text.now c.loop-byte.byte-index 0) digit, c.from.ensures)

pub loop-byte-preserved : goal.loop-byte-preserved
loop-byte-preserved c =
    let i = c.loop-byte.invariant.0 in
    let digit : is_ascii_digit (get_or c.args.text.now c.loop-byte.byte-index 0) ≡ true = sym c.is_ascii_digit.ensures.value ∙ c.if-not-is_ascii_digit.false in (
      omega (arith, i),
      omega (arith, c.if-length-min.false, c.min.ensures),
      omega (arith, c.if-length-min.false, c.min.ensures),
      subst (λ d. Sofar c.args.text.now (c.loop-byte.length + 1) (c.loop-byte.value * 10 + d)) (sym (rw i at c.from.ensures))
          (more _ _ _ (rw i at c.loop-byte-test.true) (rw i at digit) c.loop-byte.invariant.3),
    )

-- the loop ends where the digits do
ended : (c : Left-loop-byte) → digits_at (drop c.loop-byte.length c.args.text.now) ≡ []
ended c =
    elim c.loop-byte-test.branch [
      | else-loop-byte-test w ↦ digits_end _ _ (rw c.loop-byte.invariant.0 at w.loop-byte-test.false)
      | then-loop-byte-test+then-not-is_ascii_digit w ↦ digits_other _ _ (rw c.loop-byte.invariant.0 at w.loop-byte-test.true) (rw c.loop-byte.invariant.0 at (sym w.is_ascii_digit.ensures.value ∙ w.if-not-is_ascii_digit.true))
    ]

pub returns-then-length-eq0 : goal.returns-then-length-eq0
returns-then-length-eq0 c =
    let none : c.loop-byte.length ≡ 0 = c.if-length-eq0.true in
    let end = ended (goal.at.returns-then-length-eq0 c).Left-loop-byte in
    number_told _ _ _ (sym (no_digit _ _ c.loop-byte.value (rw none at c.loop-byte.invariant.3) (rw none at end)))

pub returns-then-text-eq48 : goal.returns-then-text-eq48
returns-then-text-eq48 c =
    number_told _ _ _ (sym (leading_zero _ _ _ _ c.loop-byte.invariant.3 (ended (goal.at.returns-then-text-eq48 c).Left-loop-byte) c.if-length-gt1.true c.if-text-eq48.true))

pub returns : goal.returns
returns c =
    number_told _ _ _ (sym (number_is _ _ _ _ c.loop-byte.invariant.3 (ended (goal.at.returns c).Left-loop-byte) (omega (arith, c.if-length-eq0.false)) c.loop-byte.invariant.1 c.loop-byte.invariant.2
    (elim c.else-length-gt1.branch [ else-length-gt1-via-then-length-gt1+else-text-eq48 w ↦ inr w.if-text-eq48.false | else-length-gt1-via-else-length-gt1 w ↦ inl w.if-length-gt1.false ])))
