-- What asking reads, and what it comes to.
use Rattle.std.specs.Prelude.{◌≡◌, ℕ, ◌+◌, ◌-◌, ◌*◌, ◌≤◌, false, ◌||◌, List, length, get_or, is_some, Some, None, Option, ◌==◌, nat_lt, slice_index_or, refl}
use Rattle.std.proofs.Common.{sym, ap, ◌∙◌, arith}
use Rattle.std.proofs.lemmas.List.{get_or_read, get_or-map, length-map}
use Rattle.std.proofs.lemmas.Bool.{eqb-false, ne_eqb, ltb-false, or_parts, cond-false}
use Rattle.costs.specs.Asking.{setup_told, unpriced, price_told}
use Rattle.costs.specs.declared.line.CostLine.{CostLine}
use Rattle.costs.specs.Dated.{empty_line, line_at, dated_setup, dated_price, holding_before, lines_fault, InForce}
use Rattle.costs.specs.Shown.{Summed}
use Rattle.costs.specs.InForce.{line_at_lem}
use Rattle.costs.specs.Held.{held_between, held_on}

pub none_of : {E : Type 0} (o : Option E) → is_some o ≡ false → o ≡ None
none_of None e = refl
none_of (Some f) e = let z : ◌≡◌ {A = ℕ} 0 1 = cc in absurd (omega arith)

pub length_summed : (lines : List CostLine) (hs : List ℕ) → Summed lines hs → length hs ≡ length lines
length_summed lines hs s = ap length s ∙ length-map lines (λ x. holding_before lines x.date)

-- the sum kept for the line in force, and its holding cost in each period since its date
pub held_told :
    (lines : List CostLine) (hs : List ℕ) (k p : ℕ) (x : CostLine) (h d : ℕ) → lines_fault lines ≡ None → Summed lines hs → InForce lines k p
    → x ≡ slice_index_or lines k x → h ≡ slice_index_or hs k h → d ≡ p - x.date → h + x.holding * d ≡ holding_before lines p
held_told lines hs k p x h d e s f a b q =
    let z : CostLine = get_or lines k empty_line in
    let u : x ≡ z = get_or_read lines k x f.within a empty_line in
    let v : h ≡ holding_before lines z.date = b ∙ ap (λ ns. get_or ns k h) s ∙ get_or-map (λ y. holding_before lines y.date) lines k empty_line h f.within in
    let w : x.holding * d ≡ z.holding * (p - z.date) = ap (λ n. x.holding * n) q ∙ ap (λ y. y.holding * (p - y.date)) u in
    omega (arith, v, w, held_on lines k p e f.within f.begun (λ n. omega (arith, f.unended n)))

pub line_told : (lines : List CostLine) (k p : ℕ) (x : CostLine) → lines_fault lines ≡ None → InForce lines k p → x ≡ slice_index_or lines k x → x ≡ line_at lines p
line_told lines k p x e f a = get_or_read lines k x f.within a empty_line ∙ sym (line_at_lem lines k p e f)

pub setup_told_lem : (lines : List CostLine) (j s : ℕ) → 1 ≤ j → s ≡ dated_setup lines j → Some s ≡ setup_told (dated_setup lines) j
setup_told_lem lines j s o e =
    ap Some e ∙ sym (cond-false (j == 0) None (Some (dated_setup lines j)) (ne_eqb j 0 (λ z. omega arith)))

-- a price is told for making in j at the earliest in period 1, and for use in i then or later
pub priced : (j i : ℕ) → unpriced j i ≡ false → (1 ≤ j) × (j ≤ i)
priced j i e =
    let p = or_parts (j == 0) (nat_lt i j || nat_lt 255 (i - j)) e in
    let q = or_parts (nat_lt i j) (nat_lt 255 (i - j)) p.1 in
    let n : j ≡ 0 → ⊥ = eqb-false j 0 p.0 in
    (omega arith, ltb-false i j q.0)

pub held_less : (lines : List CostLine) (j i a b : ℕ) → unpriced j i ≡ false → a ≡ holding_before lines i → b ≡ holding_before lines j → b ≤ a
held_less lines j i a b e p q = let h = priced j i e in omega (arith, held_between lines j i h.0 h.1)

-- the price in the sums that are kept
pub price_by_sums : (lines : List CostLine) (j i : ℕ) → unpriced j i ≡ false → dated_price lines j i ≡ (line_at lines j).unit + (holding_before lines i - holding_before lines j)
price_by_sums lines j i e = let h = priced j i e in omega (arith, held_between lines j i h.0 h.1)

pub price_told_lem : (lines : List CostLine) (j i v : ℕ) → unpriced j i ≡ false → v ≡ dated_price lines j i → Some v ≡ price_told (dated_price lines) j i
price_told_lem lines j i v e w = ap Some w ∙ sym (cond-false (unpriced j i) None (Some (dated_price lines j i)) e)
