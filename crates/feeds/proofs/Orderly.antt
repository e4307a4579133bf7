-- What holds of every period and forecast of order words, whatever the bytes.
use Rattle.std.proofs.Common.{◌≡◌, ℕ, zero, suc, ◌+◌, ◌-◌, ◌<◌, ◌≤◌, Bool, true, false, cond, eqb, ltb, List, length, drop, IfSome, IfOk, Some, None, Ok, Err, Option, Result, sym, refl, ap, ◌∙◌, subst, arith, length-drop}
use Rattle.std.proofs.lemmas.Bool.{cond-true, cond-false, cond_both, lt-ltb, le-ltb, ltb-false, eqb-true, eq-eqb, false≢true}
use Rattle.lots.specs.declared.word.WordKind.{WordKind}
use Rattle.lots.specs.declared.word.WordKind.TheVariants.{Zero, One, Two, Three}
use Rattle.lots.specs.Words.{word_kind, number_of_word}
use Rattle.feeds.specs.declared.fault.RecordFault.{RecordFault}
use Rattle.feeds.specs.declared.fault.RecordFaultKind.TheVariants.{NothingLeft}
use Rattle.feeds.specs.declared.period.Period.{Period}
use Rattle.feeds.specs.Faults.{found}
use Rattle.feeds.specs.Forecasts.{goes_further}
use Rattle.feeds.specs.Periods.{PeriodFits}
use Rattle.feeds.specs.SmallDemands.{counted_small}
use Rattle.feeds.specs.Orders.{cut_at, counted, opens, summed, period_in, period_at, some, begun, order_at, orders_in, orders}
use Rattle.feeds.proofs.Forecasts.{same_rest}

-- two periods that go on alike with the sum that was counted, if one was
same_sum : (place sum : ℕ) (r : Result (Option ℕ) RecordFault) (f g : ℕ → Result Period RecordFault)
    → ((s : ℕ) → f s ≡ g s) → summed place sum r f ≡ summed place sum r g
same_sum place sum (Err e) f g h = refl
same_sum place sum (Ok None) f g h = refl
same_sum place sum (Ok (Some s)) f g h = h s

-- where fewer than four bytes are left, no turn goes on
cut_in : (n : ℕ) (text : List ℕ) (handed place sum : ℕ) → length (drop place text) < 4 → period_in n text handed place sum ≡ Err (cut_at place handed (drop place text))
unfolding period_in
cut_in zero text handed place sum h = refl
cut_in (suc n) text handed place sum h = cond-true (ltb (length (drop place text)) 4) _ _ (lt-ltb _ _ h)

-- turns beyond the bytes that are there change nothing
enough_words : (n m : ℕ) (text : List ℕ) (handed place sum : ℕ) → length text - place ≤ n → length text - place ≤ m
    → period_in n text handed place sum ≡ period_in m text handed place sum
unfolding period_in
enough_words zero m text handed place sum a b =
    let l = length-drop place text in sym (cut_in m text handed place sum (omega arith))
enough_words (suc n) zero text handed place sum a b =
    let l = length-drop place text in cut_in (suc n) text handed place sum (omega arith)
enough_words (suc n) (suc m) text handed place sum a b =
    ap (λ x. cond (ltb (length (drop place text)) 4) (Err (cut_at place handed (drop place text))) x)
    (same_sum place sum (counted place handed sum (word_kind (drop place text)) (number_of_word (drop place text))) _ _
    (λ s. enough_words n m text handed (place + 4) s (omega arith) (omega arith)))

-- a period, one word at a time
pub word_on : (text : List ℕ) (handed place sum : ℕ) → 4 ≤ length (drop place text)
    → period_at text handed place sum
    ≡ summed place sum (counted place handed sum (word_kind (drop place text)) (number_of_word (drop place text))) (λ s. period_at text handed (place + 4) s)
unfolding period_at period_in
word_on text handed place sum h =
    enough_words (length text) (suc (length text)) text handed place sum (omega arith) (omega arith)
    ∙ cond-false (ltb (length (drop place text)) 4) _ _ (le-ltb _ _ h)

pub word_cut : (text : List ℕ) (handed place sum : ℕ) → length (drop place text) < 4 → period_at text handed place sum ≡ Err (cut_at place handed (drop place text))
unfolding period_at
word_cut text handed place sum h = cut_in (length text) text handed place sum h

-- a period that is read has a small demand, and ends within the text
pub record Ends (place long : ℕ) (p : Period) : Type 0 where
  pub demand : p.demand ≤ 1000000
  pub onward : place ≤ p.next
  pub within : p.next ≤ long

abbrev EndsIn : ℕ → ℕ → Result Period RecordFault → Type 0
EndsIn place long r = IfOk r (Ends place long)

period_ends : (n : ℕ) (text : List ℕ) (handed place sum : ℕ) → sum ≤ 1000000
    → EndsIn place (length text) (period_in n text handed place sum)
unfolding period_in
period_ends zero text handed place sum h = tt
period_ends (suc n) text handed place sum h =
    cond_both (ltb (length (drop place text)) 4) _ _ (EndsIn place (length text)) (λ _. tt)
    (λ e. go (counted place handed sum (word_kind (drop place text)) (number_of_word (drop place text)))
    (omega (arith, ltb-false (length (drop place text)) 4 e, length-drop place text))
    (counted_small place handed sum (word_kind (drop place text)) (number_of_word (drop place text)) h)
    (λ s l. period_ends n text handed (place + 4) s l))
  where
    weaker : (r : Result Period RecordFault) → EndsIn (place + 4) (length text) r → EndsIn place (length text) r
    weaker (Err f) k = tt
    weaker (Ok p) k = record { demand = k.demand; onward = omega (arith, k.onward); within = k.within }

    go : (r : Result (Option ℕ) RecordFault) → place ≤ length text → IfOk r (λ o. IfSome o (λ s. s ≤ 1000000))
        → ((s : ℕ) → s ≤ 1000000 → EndsIn (place + 4) (length text) (period_in n text handed (place + 4) s))
        → EndsIn place (length text) (summed place sum r (λ s. period_in n text handed (place + 4) s))
    go (Err f) w c k = tt
    go (Ok None) w c k = record { demand = h; onward = omega arith; within = w }
    go (Ok (Some s)) w c k = weaker (period_in n text handed (place + 4) s) (k s c)

-- a period is opened only while its number fits a word
number_low : (bs : List ℕ) → number_of_word bs < 1073741824
unfolding number_of_word
number_low bs = omega arith

opens_few : (place handed long : ℕ) (k : WordKind) (n : ℕ) → n < 1073741824 → IfOk (opens place handed long k n) (λ b. b ≡ true → handed + 1 < 1073741824)
opens_few place handed long Zero n h = tt
opens_few place handed long One n h = tt
opens_few place handed long Two n h =
    cond_both (eqb n (handed + 1)) _ _ (λ r. IfOk r (λ b. b ≡ true → handed + 1 < 1073741824))
    (λ e _. omega (arith, eqb-true n (handed + 1) e)) (λ _. tt)
opens_few place handed long Three n h =
    cond_both (eqb n handed) _ _ (λ r. IfOk r (λ b. b ≡ true → handed + 1 < 1073741824))
    (λ _. cond_both (ltb 4 long) _ _ (λ r. IfOk r (λ b. b ≡ true → handed + 1 < 1073741824)) (λ _. tt) (λ _ e. absurd (false≢true e)))
    (λ _. tt)

-- a record that holds a period holds one that may follow
abbrev Fits : ℕ → ℕ → ℕ → Result (Option Period) RecordFault → Type 0
Fits place handed long r = IfOk r (λ o. IfSome o (PeriodFits 1073741823 place handed long))

order_fits : (text : List ℕ) (place handed : ℕ) → Fits place handed (length text) (order_at text place handed)
unfolding order_at period_at
order_fits text place handed =
    cond_both (ltb (length (drop place text)) 4) _ _ (Fits place handed (length text)) (λ _. tt)
    (λ _. go (opens place handed (length (drop place text)) (word_kind (drop place text)) (number_of_word (drop place text)))
    (opens_few place handed _ (word_kind (drop place text)) _ (number_low (drop place text))))
  where
    on : (r : Result Period RecordFault) → handed + 1 < 1073741824 → EndsIn (place + 4) (length text) r → Fits place handed (length text) (some r)
    on (Err f) few k = tt
    on (Ok p) few k = record { demand = k.demand; onward = omega (arith, k.onward); within = k.within; few = omega (arith, few) }

    go : (r : Result Bool RecordFault) → IfOk r (λ b. b ≡ true → handed + 1 < 1073741824) → Fits place handed (length text) (begun text place handed r)
    go (Err f) h = tt
    go (Ok false) h = tt
    go (Ok true) h = on (period_in (length text) text handed (place + 4) 0) (h refl) (period_ends (length text) text handed (place + 4) 0 (omega arith))

pub order_read : (text : List ℕ) (place handed : ℕ) (r : Result (Option Period) RecordFault) → r ≡ order_at text place handed
    → IfOk r (λ o. IfSome o (PeriodFits 1073741823 place handed (length text)))
order_read text place handed r e = subst (Fits place handed (length text)) (sym e) (order_fits text place handed)

-- a period that is read takes some of the bytes
pub read_fits : (text : List ℕ) (place handed : ℕ) (p : Period) → order_at text place handed ≡ Ok (Some p) → PeriodFits 1073741823 place handed (length text) p
read_fits text place handed p e = subst (Fits place handed (length text)) e (order_fits text place handed)

-- where no byte is left, that is what is told
order_none : (text : List ℕ) (place handed : ℕ) → length text - place ≡ 0 → order_at text place handed ≡ Err (found place handed NothingLeft)
unfolding order_at
order_none text place handed z =
    let none : length (drop place text) ≡ 0 = length-drop place text ∙ z in
    cond-true (ltb (length (drop place text)) 4) _ _ (lt-ltb _ _ (omega arith))
    ∙ ap Err (cond-true (eqb (length (drop place text)) 0) _ _ (eq-eqb _ _ none))

-- turns beyond the bytes that are there change nothing
enough : (n m : ℕ) (text : List ℕ) (place handed : ℕ) → length text - place ≤ n → length text - place ≤ m → orders_in n text place handed ≡ orders_in m text place handed
unfolding orders_in
enough zero zero text place handed a b = refl
enough zero (suc m) text place handed a b =
    ap (λ r. goes_further (λ (p : Period). p.demand) r (λ p. orders_in m text p.next (handed + 1))) (sym (order_none text place handed (omega arith)))
enough (suc n) zero text place handed a b =
    ap (λ r. goes_further (λ (p : Period). p.demand) r (λ p. orders_in n text p.next (handed + 1))) (order_none text place handed (omega arith))
enough (suc n) (suc m) text place handed a b =
    same_rest (λ p. p.demand) (order_at text place handed) _ _ (λ p e.
    let fits = read_fits text place handed p e in
    enough n m text p.next (handed + 1) (omega (arith, fits.onward)) (omega (arith, fits.onward)))

-- the forecast, one record at a time
pub opened : (text : List ℕ) (place handed : ℕ) (r : Result (Option Period) RecordFault) → r ≡ order_at text place handed
    → orders text place handed ≡ goes_further (λ p. p.demand) r (λ p. orders text p.next (handed + 1))
unfolding orders orders_in
opened text place handed r e =
    enough (length text) (suc (length text)) text place handed (omega arith) (omega arith)
    ∙ ap (λ x. goes_further (λ (p : Period). p.demand) x (λ p. orders text p.next (handed + 1))) (sym e)
