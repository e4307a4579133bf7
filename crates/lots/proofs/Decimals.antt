-- One turn of the reader of decimal numbers, and what it has at its end; and that what is written is read back.
use Rattle.std.proofs.Common.{◌≡◌, ℕ, suc, ◌+◌, ◌-◌, ◌*◌, ◌^◌, ◌<◌, ◌≤◌, min, Bool, true, false, cond, ◌&&◌, eqb, ltb, ◌⊎◌, List, [], ◌∷◌, ◌++◌, length, get_or, take, drop, IfSome, Some, None, decimal, Option, sym, refl, ap, ◌∙◌, subst, inl, inr, ⊎_elim, pow-suc, add-one, arith}
use native.Mathlib.Nat.{pow-le-pow_right}
use Rattle.std.specs.Char.{is_ascii_digit}
use Rattle.std.specs.List.{prefix_len}
use Rattle.std.specs.Str.{all_ascii_digits}
use Rattle.std.proofs.lemmas.Fmt.{decimal_digit, decimal_nonempty, first_decimal, length-decimal-le, digits_decimal, digits_value-decimal}
use Rattle.std.proofs.lemmas.List.{drop_more, drop_all}
use Rattle.std.proofs.lemmas.Str.Parse.{IsNumeralModel, numerals_by_fold, tells_all_ascii_digits, digits_value_short}
use Rattle.std.proofs.lemmas.Bool.{cond-true, cond-false, cond_both, cases_lt, and_parts, and_from}
use Rattle.std.proofs.lemmas.Bool.Decides.{nat_tests}
use Rattle.lots.specs.declared.decimal.Numeral.{Numeral}
use Rattle.lots.specs.Decimals.{digits_at, worth, well_formed, number_at, field_at, stopped, Bounded, ReadsBack}

-- after i digits that are worth v
pub record Sofar (bs : List ℕ) (i v : ℕ) : Type 0 where
  pub worth_is : worth 0 (digits_at bs) ≡ worth v (digits_at (drop i bs))
  pub count : length (digits_at bs) ≡ i + length (digits_at (drop i bs))
  pub small : v < 10 ^ i

pub start : (bs : List ℕ) → Sofar bs 0 0
start bs = record { worth_is = refl; count = omega arith; small = omega arith }

pub in_digits : (c : ℕ) → is_ascii_digit c ≡ true → (48 ≤ c) × (c ≤ 57)
in_digits c e = (grind (arith, nat_tests), grind (arith, nat_tests))

pub digits_cons : (c : ℕ) (cs : List ℕ) → is_ascii_digit c ≡ true → digits_at (c ∷ cs) ≡ c ∷ digits_at cs
unfolding digits_at
digits_cons c cs e =
    let n = prefix_len is_ascii_digit cs in
    let one : 1 + n ≡ suc n = omega arith in
    ap (λ b. take (cond b (1 + n) 0) (c ∷ cs)) e ∙ ap (λ k. take k (c ∷ cs)) one

pub digits_stop : (c : ℕ) (cs : List ℕ) → is_ascii_digit c ≡ false → digits_at (c ∷ cs) ≡ []
unfolding digits_at
digits_stop c cs e = ap (λ b. take (cond b (1 + prefix_len is_ascii_digit cs) 0) (c ∷ cs)) e

pub digits_none : digits_at [] ≡ []
unfolding digits_at
digits_none = refl

digits_more : (bs : List ℕ) (i : ℕ) → i < length bs → is_ascii_digit (get_or bs i 0) ≡ true → digits_at (drop i bs) ≡ get_or bs i 0 ∷ digits_at (drop (i + 1) bs)
digits_more bs i l e = ap digits_at (drop_more bs i 0 l) ∙ digits_cons _ _ e

one_more : (v c i : ℕ) → v < 10 ^ i → c ≤ 57 → v * 10 + (c - 48) < 10 ^ (i + 1)
one_more v c i h l = omega (arith, ap (λ k. 10 ^ k) (add-one i) ∙ pow-suc 10 i)

pub more : (bs : List ℕ) (i v : ℕ) → i < length bs → is_ascii_digit (get_or bs i 0) ≡ true → Sofar bs i v → Sofar bs (i + 1) (v * 10 + (get_or bs i 0 - 48))
unfolding worth
more bs i v l e h =
    let d = digits_more bs i l e in
    record {
      worth_is = h.worth_is ∙ ap (worth v) d;
      count = omega (arith, h.count, ap length d);
      small = one_more v (get_or bs i 0) i h.small (in_digits _ e).1;
    }

-- the value fits 64 bits, since 19 digits do
pub fits : (v i : ℕ) → v < 10 ^ i → i ≤ 18 → v < 10 ^ 18
fits v i h l = omega (arith, pow-le-pow_right {n = 10} (omega arith) {i = i} {j = 18} l)

-- the digits end at i
pub digits_end : (bs : List ℕ) (i : ℕ) → length bs ≤ i → digits_at (drop i bs) ≡ []
digits_end bs i l = ap digits_at (drop_all i bs l) ∙ digits_none

pub digits_other : (bs : List ℕ) (i : ℕ) → i < length bs → is_ascii_digit (get_or bs i 0) ≡ false → digits_at (drop i bs) ≡ []
digits_other bs i l e = ap digits_at (drop_more bs i 0 l) ∙ digits_stop _ _ e

-- the digits begin with the text's first byte
first : (bs : List ℕ) → 0 < length (digits_at bs) → get_or (digits_at bs) 0 0 ≡ get_or bs 0 0
unfolding digits_at
first [] h = refl
first (c ∷ cs) h = go (is_ascii_digit c) refl
  where
    go : (t : Bool) → is_ascii_digit c ≡ t → get_or (digits_at (c ∷ cs)) 0 0 ≡ c
    go true e = ap (λ l. get_or l 0 0) (digits_cons c cs e)
    go false e = absurd (omega (arith, ap length (digits_stop c cs e)))

first_digit : (bs : List ℕ) → 0 < length (digits_at bs) → 48 ≤ get_or bs 0 0
first_digit [] h = absurd (omega (arith, ap length digits_none))
first_digit (c ∷ cs) h = go (is_ascii_digit c) refl
  where
    go : (t : Bool) → is_ascii_digit c ≡ t → 48 ≤ c
    go true e = (in_digits c e).0
    go false e = absurd (omega (arith, ap length (digits_stop c cs e)))

none_from : (most : ℕ) (bs : List ℕ) → well_formed most (digits_at bs) ≡ false → number_at most bs ≡ None
unfolding number_at
none_from most bs e = cond-false (well_formed most (digits_at bs)) _ _ e

pub too_many : (most : ℕ) (bs : List ℕ) (i v : ℕ) → Sofar bs i v → i < length bs → is_ascii_digit (get_or bs i 0) ≡ true → (most ≤ i) ⊎ (19 ≤ i) → number_at most bs ≡ None
unfolding well_formed
too_many most bs i v h l e many =
    let d = ap length (digits_more bs i l e) in
    let long : min most 19 < length (digits_at bs) = ⊎_elim (λ m. omega (arith, h.count)) (λ m. omega (arith, h.count)) many in
    none_from most bs (grind (arith, nat_tests))

pub no_digit : (most : ℕ) (bs : List ℕ) (v : ℕ) → Sofar bs 0 v → digits_at (drop 0 bs) ≡ [] → number_at most bs ≡ None
unfolding well_formed
no_digit most bs v h e =
    let z : length (digits_at bs) ≡ 0 = ap length e in
    none_from most bs (grind (arith, nat_tests))

pub leading_zero : (most : ℕ) (bs : List ℕ) (i v : ℕ) → Sofar bs i v → digits_at (drop i bs) ≡ [] → 1 < i → get_or bs 0 0 ≡ 48 → number_at most bs ≡ None
unfolding well_formed
leading_zero most bs i v h e two z =
    let n : length (digits_at bs) ≡ i = omega (arith, h.count, ap length e) in
    let f : get_or (digits_at bs) 0 0 ≡ 48 = first bs (omega arith) ∙ z in
    none_from most bs (grind (arith, nat_tests))

pub number_is : (most : ℕ) (bs : List ℕ) (i v : ℕ) → Sofar bs i v → digits_at (drop i bs) ≡ [] → 0 < i → i ≤ most → i ≤ 19 → (i ≤ 1) ⊎ (get_or bs 0 0 ≡ 48 → ⊥) → number_at most bs ≡ Some (record { value = v; length = i })
unfolding well_formed number_at worth
number_is most bs i v h e some few fit lead =
    let n : length (digits_at bs) ≡ i = omega (arith, h.count, ap length e) in
    let f : get_or (digits_at bs) 0 0 ≡ get_or bs 0 0 = first bs (omega arith) in
    let w : worth 0 (digits_at bs) ≡ v = h.worth_is ∙ ap (worth v) e in
    let ok : well_formed most (digits_at bs) ≡ true = ⊎_elim (λ l. grind (arith, nat_tests)) (λ l. let some_digit : 48 ≤ get_or bs 0 0 = first_digit bs (omega arith) in let higher : 48 < get_or bs 0 0 = omega (arith, l) in grind (arith, nat_tests)) lead in
    cond-true (well_formed most (digits_at bs)) _ _ ok ∙ (λ j. Some (record { value = w j; length = n j }))

all_digits : (bs : List ℕ) → (all_ascii_digits (digits_at bs) ≡ true) × (length (digits_at bs) ≤ length bs)
all_digits [] = (ap all_ascii_digits digits_none, omega (arith, ap length digits_none))
all_digits (c ∷ cs) = go (is_ascii_digit c) refl (all_digits cs)
  where
    go : (t : Bool) → is_ascii_digit c ≡ t → (all_ascii_digits (digits_at cs) ≡ true) × (length (digits_at cs) ≤ length cs)
        → (all_ascii_digits (digits_at (c ∷ cs)) ≡ true) × (length (digits_at (c ∷ cs)) ≤ suc (length cs))
    go true e h = let d = digits_cons c cs e in (ap all_ascii_digits d ∙ and_from _ _ e h.0, omega (arith, ap length d, h.1))
    go false e h = let d = digits_stop c cs e in (ap all_ascii_digits d, omega (arith, ap length d))

digits_whole : (ds rest : List ℕ) → all_ascii_digits ds ≡ true → digits_at rest ≡ [] → digits_at (ds ++ rest) ≡ ds
digits_whole [] rest a e = e
digits_whole (c ∷ cs) rest a e =
    let p = and_parts (is_ascii_digit c) (all_ascii_digits cs) a in
    digits_cons c (cs ++ rest) p.0 ∙ ap (λ l. c ∷ l) (digits_whole cs rest p.1 e)

own : IsNumeralModel (λ ds. all_ascii_digits ds ≡ true) (worth 0)
unfolding worth
own = numerals_by_fold _ tells_all_ascii_digits worth (record { empty = λ n. refl; more = λ n c cs h. refl })

number_bounded : (most : ℕ) (bs : List ℕ) → IfSome (number_at most bs) (Bounded most bs)
unfolding number_at well_formed
number_bounded most bs =
    cond_both (well_formed most (digits_at bs)) _ _ (λ r. IfSome r (Bounded most bs))
    (λ w.
    let some : 1 ≤ length (digits_at bs) = grind (arith, nat_tests) in
    let few : length (digits_at bs) ≤ most = grind (arith, nat_tests) in
    record { value = digits_value_short own (digits_at bs) most (all_digits bs).0 few; some = some; within = (all_digits bs).1 })
    (λ _. tt)

pub field_bounded : (most stop : ℕ) (bs : List ℕ) → IfSome (field_at most stop bs) (Bounded most bs)
unfolding field_at
field_bounded most stop bs = go (number_at most bs) (number_bounded most bs)
  where
    go : (o : Option Numeral) → IfSome o (Bounded most bs) → IfSome (stopped stop bs o) (Bounded most bs)
    go None h = tt
    go (Some n) h =
        cond_both (ltb n.length (length bs) && eqb (get_or bs n.length 0) stop) _ _ (λ r. IfSome r (Bounded most bs))
        (λ w. let l : n.length < length bs = grind (arith, nat_tests) in record { value = h.value; some = omega arith; within = omega arith })
        (λ _. tt)

-- what is told decides the bounds too
pub number_told : (most : ℕ) (bs : List ℕ) (r : Option Numeral) → r ≡ number_at most bs → record { told : r ≡ number_at most bs; bounded : IfSome r (Bounded most bs) }
number_told most bs r e = record { told = e; bounded = subst (λ o. IfSome o (Bounded most bs)) (sym e) (number_bounded most bs) }

first_is : (n : ℕ) → n < 2 ^ 64 → (48 < get_or (decimal n) 0 0) ⊎ (length (decimal n) ≡ 1)
first_is n fit = ⊎_elim (λ (z : n < 1). inr (ap length (decimal_digit n (omega arith)))) (λ h. inl (first_decimal n h fit)) (cases_lt n 1)

pub reads_back : ReadsBack
unfolding number_at well_formed
reads_back n most rest l some few e =
    let fit : n < 2 ^ 64 = omega (arith, pow-le-pow_right {n = 10} (omega arith) {i = most} {j = 19} few) in
    let ds : digits_at (decimal n ++ rest) ≡ decimal n = digits_whole (decimal n) rest (digits_decimal own n fit) e in
    let short : length (decimal n) ≤ most = length-decimal-le most n some l fit in
    let long : 0 < length (decimal n) = decimal_nonempty n fit in
    let ok : well_formed most (decimal n) ≡ true = ⊎_elim (λ h. grind (arith, nat_tests)) (λ h. grind (arith, nat_tests)) (first_is n fit) in
    ap (λ (l : List ℕ). cond (well_formed most l) (Some (record { value = worth 0 l; length = length l })) None) ds
    ∙ cond-true (well_formed most (decimal n)) _ _ ok
    ∙ ap (λ v. Some (record { value = v; length = length (decimal n) })) (digits_value-decimal own n fit)
