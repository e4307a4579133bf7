-- What holds of every line, record and forecast of a text, whatever its bytes.
use Rattle.std.proofs.Common.{◌≡◌, ℕ, zero, suc, ◌+◌, ◌-◌, ◌≤◌, eqb, leb, List, [], ◌∷◌, length, drop, IfSome, IfOk, Some, None, Ok, Option, Result, refl, ap, ◌∙◌, subst, arith, length-drop}
use Rattle.std.proofs.lemmas.List.{drop-drop}
use Rattle.std.proofs.lemmas.Bool.{cond_both}
use Rattle.lots.specs.declared.decimal.Numeral.{Numeral}
use Rattle.lots.specs.Decimals.{field_at, Bounded}
use Rattle.lots.proofs.Decimals.{field_bounded}
use Rattle.feeds.specs.declared.fault.RecordFault.{RecordFault}
use Rattle.feeds.specs.declared.line.Front.{Front}
use Rattle.feeds.specs.declared.line.Front.TheVariants.{Nothing, End, EndAndMore, Other}
use Rattle.feeds.specs.declared.line.Line.{Line}
use Rattle.feeds.specs.Lines.{LineFits}
use Rattle.feeds.specs.Text.{line_of, line_after, line_at, front_of, checked, record_of, record_at, forecast_in, forecast}
use Rattle.feeds.specs.Forecasts.{goes_further}
use Rattle.feeds.proofs.Forecasts.{same_rest}

line_fits : (bs : List ℕ) → IfSome (line_at bs) (LineFits bs)
unfolding line_at
line_fits bs = go (field_at 7 44 bs) (field_bounded 7 44 bs)
  where
    on : (p : Numeral) → Bounded 7 bs p → (o : Option Numeral) → IfSome o (Bounded 7 (drop p.length bs)) → IfSome (line_of p o) (LineFits bs)
    on p h None k = tt
    on p h (Some d) k =
        record { period = h.value; demand = k.value; some = omega (arith, h.some); within = omega (arith, h.within, k.within, length-drop p.length bs) }

    go : (o : Option Numeral) → IfSome o (Bounded 7 bs) → IfSome (line_after bs o) (LineFits bs)
    go None h = tt
    go (Some p) h = on p h (field_at 7 10 (drop p.length bs)) (field_bounded 7 10 (drop p.length bs))

-- a line that is read takes some of the bytes
abbrev Takes : Result (Option Line) RecordFault → Type 0
Takes r = IfOk r (λ o. IfSome o (λ l. 1 ≤ l.length))

takes_some : (place handed : ℕ) (bs : List ℕ) → Takes (record_at place handed bs)
unfolding record_at
takes_some place handed bs = go (front_of bs)
  where
    on : (o : Option Line) → IfSome o (LineFits bs) → Takes (checked place handed o)
    on None h = tt
    on (Some l) h =
        cond_both (eqb l.period (handed + 1)) _ _ Takes (λ _. cond_both (leb l.demand 1000000) _ _ Takes (λ _. h.some) (λ _. tt)) (λ _. tt)

    go : (f : Front) → Takes (record_of place handed bs f)
    go Nothing = tt
    go End = tt
    go EndAndMore = tt
    go Other = on (line_at bs) (line_fits bs)

some_read : (place handed : ℕ) (bs : List ℕ) (l : Line) → record_at place handed bs ≡ Ok (Some l) → 1 ≤ l.length
some_read place handed bs l e = subst Takes e (takes_some place handed bs)

-- turns beyond the bytes that are there change nothing
enough : (n m place handed : ℕ) (bs : List ℕ) → length bs ≤ n → length bs ≤ m → forecast_in n place handed bs ≡ forecast_in m place handed bs
unfolding forecast_in record_at
enough zero zero place handed bs a b = refl
enough zero (suc m) place handed [] a b = refl
enough zero (suc m) place handed (x ∷ bs) a b = absurd (omega arith)
enough (suc n) zero place handed [] a b = refl
enough (suc n) zero place handed (x ∷ bs) a b = absurd (omega arith)
enough (suc n) (suc m) place handed bs a b =
    same_rest (λ l. l.demand) (record_at place handed bs) _ _ (λ l e.
    let some : 1 ≤ l.length = some_read place handed bs l e in
    let fewer : length (drop l.length bs) ≡ length bs - l.length = length-drop l.length bs in
    enough n m (place + l.length) (handed + 1) (drop l.length bs) (omega arith) (omega arith))

-- the forecast of the text from a place on, one record at a time
pub text_step : (text : List ℕ) (place handed : ℕ) → forecast place handed (drop place text)
    ≡ goes_further (λ l. l.demand) (record_at place handed (drop place text)) (λ l. forecast (place + l.length) (handed + 1) (drop (place + l.length) text))
unfolding forecast forecast_in
text_step text place handed =
    let bs : List ℕ = drop place text in
    enough (length bs) (suc (length bs)) place handed bs (omega arith) (omega arith)
    ∙ same_rest (λ l. l.demand) (record_at place handed bs) _ _ (λ l e.
    let some : 1 ≤ l.length = some_read place handed bs l e in
    let fewer : length (drop l.length bs) ≡ length bs - l.length = length-drop l.length bs in
    enough (length bs) (length (drop l.length bs)) (place + l.length) (handed + 1) (drop l.length bs) (omega arith) (omega arith)
    ∙ ap (forecast (place + l.length) (handed + 1)) (drop-drop l.length place text))
