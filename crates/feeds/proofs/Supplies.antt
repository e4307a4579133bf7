-- One period of a supply: what comes in it, and what is left to come.
use Rattle.std.proofs.Common.{◌≡◌, ◌≢◌, ℕ, ◌+◌, ◌-◌, ◌<◌, ◌≤◌, true, false, ◌&&◌, eqb, leb, List, [], ◌∷◌, length, get_or, drop, sym, refl, ap, ◌∙◌, subst, arith}
use Rattle.std.proofs.lemmas.Bool.{cond-true, cond-false, and_parts, and_from, leb-true, le-leb, eq-eqb, ne_eqb}
use Rattle.theory.specs.Netting as theory
use Rattle.feeds.specs.declared.receipt.Receipt.{Receipt}
use Rattle.feeds.specs.Receipts.{coming_from, supplies, netted}

-- what coming_from says of the first receipt and of the others
pub record Comes (p : ℕ) (x : Receipt) (xs : List Receipt) : Type 0 where
  pub date : p ≤ x.period
  pub amount : x.amount ≤ 1000000000
  pub others : coming_from (x.period + 1) xs ≡ true

pub comes : (p : ℕ) (x : Receipt) (xs : List Receipt) → coming_from p (x ∷ xs) ≡ true → Comes p x xs
comes p x xs e =
    let a = and_parts (leb p x.period) (leb x.amount 1000000000 && coming_from (x.period + 1) xs) e in
    let b = and_parts (leb x.amount 1000000000) (coming_from (x.period + 1) xs) a.1 in
    record { date = leb-true p x.period a.0; amount = leb-true x.amount 1000000000 b.0; others = b.1 }

pub coming_later : (p q : ℕ) (x : Receipt) (xs : List Receipt) → coming_from p (x ∷ xs) ≡ true → q ≤ x.period → coming_from q (x ∷ xs) ≡ true
coming_later p q x xs e l =
    and_from (leb q x.period) _ (le-leb q x.period l) (and_parts (leb p x.period) (leb x.amount 1000000000 && coming_from (x.period + 1) xs) e).1

-- nothing comes before the first receipt
pub nothing_before : (i p : ℕ) (xs : List Receipt) → coming_from p xs ≡ true → i < p → theory.received (supplies xs) i ≡ 0
unfolding theory.received
nothing_before i p [] e l = refl
nothing_before i p (x ∷ xs) e l =
    let c = comes p x xs e in
    let later = nothing_before i (x.period + 1) xs c.others (omega (arith, c.date)) in
    let other : eqb x.period i ≡ false = ne_eqb x.period i (λ same. omega (arith, c.date)) in
    let none = cond-false (eqb x.period i) x.amount 0 other in
    omega (arith, none, later)

-- in the first receipt's period, it alone comes
pub comes_now : (i : ℕ) (x : Receipt) (xs : List Receipt) → coming_from i (x ∷ xs) ≡ true → x.period ≤ i → theory.received (supplies (x ∷ xs)) i ≡ x.amount
unfolding theory.received
comes_now i x xs e l =
    let c = comes i x xs e in
    let later = nothing_before i (x.period + 1) xs c.others (omega (arith, c.date)) in
    let now : eqb x.period i ≡ true = eq-eqb x.period i (omega (arith, c.date)) in
    let all = cond-true (eqb x.period i) x.amount 0 now in
    omega (arith, all, later)

-- what has come is of no matter later
past : (i : ℕ) (x : Receipt) (xs : List Receipt) → x.period < i → theory.received (supplies (x ∷ xs)) i ≡ theory.received (supplies xs) i
unfolding theory.received
past i x xs l =
    let other : eqb x.period i ≡ false = ne_eqb x.period i (λ same. omega arith) in
    let none = cond-false (eqb x.period i) x.amount 0 other in
    omega (arith, none)

pub net_past : (i stock : ℕ) (x : Receipt) (xs : List Receipt) (ds : List ℕ) → x.period < i → netted (supplies (x ∷ xs)) i stock ds ≡ netted (supplies xs) i stock ds
unfolding netted
net_past i stock x xs [] l = refl
net_past i stock x xs (d ∷ ds) l =
    let same = past i x xs l in
    ap (λ r. (d - (stock + r)) ∷ netted (supplies (x ∷ xs)) (i + 1) (stock + r - d) ds) same
    ∙ ap (λ t. (d - (stock + theory.received (supplies xs) i)) ∷ t) (net_past (i + 1) _ x xs ds (omega arith))

-- once all has come, periods need no counting
net_ended : (i j stock : ℕ) (ds : List ℕ) → netted [] i stock ds ≡ netted [] j stock ds
unfolding netted theory.received
net_ended i j stock [] = refl
net_ended i j stock (d ∷ ds) = ap (λ t. (d - (stock + 0)) ∷ t) (net_ended (i + 1) (j + 1) (stock + 0 - d) ds)

pub nothing_left : (i : ℕ) (xs : List Receipt) → xs ≡ [] → theory.received (supplies xs) i ≡ 0
unfolding theory.received
nothing_left i xs e = ap (λ l. theory.received (supplies l) i) e

pub net_left : (i stock : ℕ) (xs : List Receipt) (ds : List ℕ) → xs ≡ [] → netted (supplies xs) i stock ds ≡ netted (supplies xs) (i + 1) stock ds
net_left i stock xs ds e =
    ap (λ l. netted (supplies l) i stock ds) e ∙ net_ended i (i + 1) stock ds ∙ ap (λ l. netted (supplies l) (i + 1) stock ds) (sym e)

-- the receipt at the front of a queue is the first of them
pub front_first : (xs : List Receipt) (x : Receipt) → 0 < length xs → x ≡ get_or xs 0 x → xs ≡ x ∷ drop 1 xs
front_first [] x l e = absurd (omega arith)
front_first (y ∷ xs) x l e = ap (λ z. z ∷ xs) (sym e)

-- a period of a queue whose front is x
module _ (xs : List Receipt) (p : ℕ) (x : Receipt) (front : xs ≡ x ∷ drop 1 xs) (coming : coming_from p xs ≡ true) where
  whole : coming_from p (x ∷ drop 1 xs) ≡ true
  whole = subst (λ r. coming_from p r ≡ true) front coming

  pub front_comes : Comes p x (drop 1 xs)
  front_comes = comes p x _ whole

  later_whole : (q : ℕ) → q ≤ x.period → coming_from q xs ≡ true
  later_whole q l = subst (λ r. coming_from q r ≡ true) (sym front) (coming_later p q x _ whole l)

  pub not_yet : p ≢ x.period → theory.received (supplies xs) p ≡ 0
  not_yet h = nothing_before p x.period xs (later_whole x.period (omega arith)) (omega (arith, front_comes.date, h))

  pub now_comes : p ≡ x.period → theory.received (supplies xs) p ≡ x.amount
  now_comes h = ap (λ r. theory.received (supplies r) p) front ∙ comes_now p x _ whole (omega (arith, h))

  pub net_on : p ≡ x.period → (stock : ℕ) (ds : List ℕ) → netted (supplies (drop 1 xs)) (p + 1) stock ds ≡ netted (supplies xs) (p + 1) stock ds
  net_on h stock ds =
      sym (net_past (p + 1) stock x (drop 1 xs) ds (omega (arith, h))) ∙ ap (λ r. netted (supplies r) (p + 1) stock ds) (sym front)
