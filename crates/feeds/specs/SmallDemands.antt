-- Proofs that no demand of a feed is above 1,000,000: each format cites its own as a law, and netting the last one for its `next`.
use Rattle.std.specs.Prelude.{ℕ, zero, suc, ◌+◌, ◌≤◌, List, [], ◌∷◌, length, drop, IfSome, IfOk, Some, None, Ok, Err, Option, Result}
use Rattle.std.proofs.Common.{Bool, true, false, leb, ltb, eqb, arith}
use Rattle.std.proofs.lemmas.Bool.{cond_both, leb-true}
use Rattle.lots.specs.declared.word.WordKind.{WordKind}
use Rattle.lots.specs.declared.word.WordKind.TheVariants.{Zero, One, Two, Three}
use Rattle.lots.specs.Words.{word_kind, number_of_word}
use Rattle.theory.specs.Netting as theory
use Rattle.feeds.specs.declared.fault.RecordFault.{RecordFault}
use Rattle.feeds.specs.declared.line.Front.{Front}
use Rattle.feeds.specs.declared.line.Front.TheVariants.{Nothing, End, EndAndMore, Other}
use Rattle.feeds.specs.declared.line.Line.{Line}
use Rattle.feeds.specs.declared.period.Period.{Period}
use Rattle.feeds.specs.Feeding.{Small}
use Rattle.feeds.specs.Forecasts.{Forecast, goes_further}
use Rattle.feeds.specs.Orders.{counted, summed, period_in, period_at, some, begun, order_at, orders_in, orders}
use Rattle.feeds.specs.Receipts.{netted}
use Rattle.feeds.specs.Text.{line_at, front_of, checked, record_of, record_at, forecast_in, forecast}

-- a record that was read, if one was, has a small demand
abbrev SmallRead : {R : Type 0} → (R → ℕ) → Result (Option R) RecordFault → Type 0
SmallRead demand r = IfOk r (λ o. IfSome o (λ x. demand x ≤ 1000000))

-- demands are small where the first is and the others are
small_on : {R : Type 0} (demand : R → ℕ) (r : Result (Option R) RecordFault) (f : R → Forecast)
    → SmallRead demand r → ((x : R) → Small (f x).demands) → Small (goes_further demand r f).demands
small_on demand (Err e) f h k = tt
small_on demand (Ok None) f h k = tt
small_on demand (Ok (Some x)) f h k = (h, k x)

line_small : (place handed : ℕ) (bs : List ℕ) → SmallRead (λ (l : Line). l.demand) (record_at place handed bs)
unfolding record_at
line_small place handed bs = go (front_of bs)
  where
    on : (o : Option Line) → SmallRead (λ (l : Line). l.demand) (checked place handed o)
    on None = tt
    on (Some l) =
        cond_both (eqb l.period (handed + 1)) _ _ (SmallRead (λ (l : Line). l.demand))
        (λ _. cond_both (leb l.demand 1000000) _ _ (SmallRead (λ (l : Line). l.demand)) (λ e. leb-true l.demand 1000000 e) (λ _. tt))
        (λ _. tt)

    go : (f : Front) → SmallRead (λ (l : Line). l.demand) (record_of place handed bs f)
    go Nothing = tt
    go End = tt
    go EndAndMore = tt
    go Other = on (line_at bs)

lines_small : (n place handed : ℕ) (bs : List ℕ) → Small (forecast_in n place handed bs).demands
unfolding forecast_in
lines_small zero place handed bs = tt
lines_small (suc n) place handed bs =
    small_on (λ l. l.demand) (record_at place handed bs) _ (line_small place handed bs) (λ l. lines_small n (place + l.length) (handed + 1) (drop l.length bs))

pub text_small : (place handed : ℕ) (bs : List ℕ) → Small (forecast place handed bs).demands
unfolding forecast
text_small place handed bs = lines_small (length bs) place handed bs

-- a sum that is counted stays small
pub counted_small : (place handed sum : ℕ) (k : WordKind) (n : ℕ) → sum ≤ 1000000 → SmallRead (λ s. s) (counted place handed sum k n)
counted_small place handed sum Zero n h =
    cond_both (leb (sum + n) 1000000) _ _ (SmallRead (λ s. s)) (λ e. leb-true (sum + n) 1000000 e) (λ _. tt)
counted_small place handed sum One n h = cond_both (leb n sum) _ _ (SmallRead (λ s. s)) (λ _. omega arith) (λ _. tt)
counted_small place handed sum Two n h = tt
counted_small place handed sum Three n h = tt

-- and so does the demand of a period
abbrev SmallPeriod : Result Period RecordFault → Type 0
SmallPeriod r = IfOk r (λ p. p.demand ≤ 1000000)

period_small : (n : ℕ) (text : List ℕ) (handed place sum : ℕ) → sum ≤ 1000000 → SmallPeriod (period_in n text handed place sum)
unfolding period_in
period_small zero text handed place sum h = tt
period_small (suc n) text handed place sum h =
    cond_both (ltb (length (drop place text)) 4) _ _ SmallPeriod (λ _. tt)
    (λ _. go _ (counted_small place handed sum (word_kind (drop place text)) (number_of_word (drop place text)) h)
    (λ s c. period_small n text handed (place + 4) s c))
  where
    go : (r : Result (Option ℕ) RecordFault) → SmallRead (λ s. s) r → ((s : ℕ) → s ≤ 1000000 → SmallPeriod (period_in n text handed (place + 4) s))
        → SmallPeriod (summed place sum r (λ s. period_in n text handed (place + 4) s))
    go (Err f) c k = tt
    go (Ok None) c k = h
    go (Ok (Some s)) c k = k s c

order_small : (text : List ℕ) (place handed : ℕ) → SmallRead (λ (p : Period). p.demand) (order_at text place handed)
unfolding order_at period_at
order_small text place handed =
    cond_both (ltb (length (drop place text)) 4) _ _ (SmallRead (λ (p : Period). p.demand)) (λ _. tt) (λ _. go _)
  where
    on : (r : Result Period RecordFault) → SmallPeriod r → SmallRead (λ (p : Period). p.demand) (some r)
    on (Err f) h = tt
    on (Ok p) h = h

    go : (r : Result Bool RecordFault) → SmallRead (λ (p : Period). p.demand) (begun text place handed r)
    go (Err f) = tt
    go (Ok false) = tt
    go (Ok true) = on _ (period_small (length text) text handed (place + 4) 0 (omega arith))

periods_small : (n : ℕ) (text : List ℕ) (place handed : ℕ) → Small (orders_in n text place handed).demands
unfolding orders_in
periods_small zero text place handed = tt
periods_small (suc n) text place handed =
    small_on (λ p. p.demand) (order_at text place handed) _ (order_small text place handed) (λ p. periods_small n text p.next (handed + 1))

pub orders_small : (text : List ℕ) (place handed : ℕ) → Small (orders text place handed).demands
unfolding orders
orders_small text place handed = periods_small (length text) text place handed

-- net demands are small where the gross demands are
pub net_small : (rs : List theory.Receipt) (i stock : ℕ) (ds : List ℕ) → Small ds → Small (netted rs i stock ds)
unfolding netted
net_small rs i stock [] h = tt
net_small rs i stock (d ∷ ds) h = (omega (arith, h.0), net_small rs (i + 1) _ ds h.1)
