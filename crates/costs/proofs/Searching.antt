-- The line that the search among the dates finds, and what is kept with it.
use Rattle.std.specs.Prelude.{zero}
use Rattle.std.proofs.Common.{◌≡◌, ℕ, suc, ◌+◌, ◌-◌, ◌*◌, ◌<◌, ◌≤◌, Bool, true, false, leb, List, [], ◌∷◌, map, length, get_or, take, drop, None, sym, ap, ◌∙◌, add-one, arith, leb-true, leb-false, refl}
use Rattle.std.proofs.lemmas.List.{get_or-map, length-map, take_rest}
use Rattle.std.proofs.lemmas.List.Sorted.{IsNonDecreasingBy-from_all_adjacent, IsPartitionPoint-from_clause, IsPartitionedBy-leb, IsNonDecreasingBy-drop}
use Rattle.std.specs.List.Sorted.{IsNonDecreasingBy, IsPartitionedBy, IsPartitionPoint}
use Rattle.std.specs.Fn.{Called, ComputesKey}
use denote.Param.Members.{Mut}
use denote.Ref.{Bor}
use Rattle.costs.specs.declared.line.CostLine.{CostLine}
use Rattle.costs.specs.declared.dated.HeldLine.{HeldLine}
use Rattle.costs.specs.Dated.{empty_line, line_at, holding_before, lines_fault, InForce}
use Rattle.costs.specs.Shown.{Summed}
use Rattle.costs.specs.InForce.{dates_rise, first_dated}
use Rattle.costs.specs.Told.{held_told, line_told}

abbrev pub line_of : HeldLine → CostLine
line_of x = x.line

abbrev pub held_of : HeldLine → ℕ
held_of x = x.held

-- a date as it stands in the list of lines
date_at : (xs : List HeldLine) (k : ℕ) (d : HeldLine) → k < length xs → (get_or (map line_of xs) k empty_line).date ≡ (get_or xs k d).line.date
date_at xs k d h = ap (λ x. x.date) (get_or-map line_of xs k d empty_line h)

dates_stand : (xs : List HeldLine) → lines_fault (map line_of xs) ≡ None → IsNonDecreasingBy (λ x. x.line.date) xs
dates_stand xs e =
    IsNonDecreasingBy-from_all_adjacent (λ x. x.line.date) xs
    (λ k d h.
    let a = date_at xs k d (omega arith) in
    let b = date_at xs (suc k) d (omega arith) in
    let r = dates_rise (map line_of xs) k e (omega (arith, length-map xs line_of)) in
    rw add-one (omega (arith, a, b, r)))

-- the first line has begun, and so have the i lines behind it that the search found
last_begun : (x : HeldLine) (xs : List HeldLine) (p i : ℕ) → lines_fault (map line_of (x ∷ xs)) ≡ None → 1 ≤ p → i ≤ length xs
    → IsPartitionPoint (λ y. leb y.line.date p ≡ true) (λ y. leb y.line.date p ≡ false) xs i → InForce (map line_of (x ∷ xs)) i p
last_begun x xs p i e o h s =
    let n = length-map xs line_of in
    record {
      within = omega (arith, n);
      begun = begun i h s;
      unended = λ l. omega (arith, date_at xs i x (omega (arith, n)), leb-false _ _ (s.1 i x (omega arith) (omega (arith, n))));
    }
  where
    begun : (i : ℕ) → i ≤ length xs → IsPartitionPoint (λ y. leb y.line.date p ≡ true) (λ y. leb y.line.date p ≡ false) xs i
        → (get_or (map line_of (x ∷ xs)) i empty_line).date ≤ p
    begun zero h s = omega (arith, (first_dated (map line_of (x ∷ xs)) e).2)
    begun (suc k) h s = omega (arith, date_at xs k x h, leb-true _ _ (s.0 k x (omega arith) (omega arith)))

-- what `partition_point` finds among the lines behind the first, where each call tells whether the line has begun
pub search_finds : {F : Type 0} {g : Mut F (Bor HeldLine × Unit {0}) Bool} {f : F} (v : List HeldLine) (p i : ℕ) → lines_fault (map line_of v) ≡ None → 1 ≤ p
    → i ≤ length (take (length v - 1) (drop 1 v))
    → ((q : HeldLine → Bool) → ComputesKey g q f → IsPartitionedBy q (take (length v - 1) (drop 1 v))
    → IsPartitionPoint (λ y. q y ≡ true) (λ y. q y ≡ false) (take (length v - 1) (drop 1 v)) i)
    → ((a : Bor HeldLine × Unit {0}) (r : Bool) (f' : F) → Called g f a r f' → (r ≡ leb a.0.now.line.date p) × (f' ≡ f))
    → InForce (map line_of v) i p
search_finds [] p i e o h s calls = absurd (omega (arith, (first_dated [] e).0))
search_finds (x ∷ xs) p i e o h s calls =
    let t = take_rest (x ∷ xs) 1 in
    let parted = IsNonDecreasingBy-drop (λ y. y.line.date) 1 (x ∷ xs) (dates_stand (x ∷ xs) e) in
    last_begun x xs p i e o (rw t at h)
    (IsPartitionPoint-from_clause (λ y. leb y.line.date p) xs i (rw t at s) (IsPartitionedBy-leb (λ y. y.line.date) xs p parted) calls)

-- a single line is in force from the start
pub alone : (xs : List HeldLine) (p : ℕ) → lines_fault (map line_of xs) ≡ None → 1 ≤ p → length xs < 2 → InForce (map line_of xs) 0 p
alone xs p e o s =
    let f = first_dated (map line_of xs) e in
    record {
      within = omega (arith, f.0);
      begun = omega (arith, f.2);
      unended = λ l. absurd (omega (arith, s, length-map xs line_of));
    }

-- what is kept with the line in force
pub record Known (lines : List CostLine) (p : ℕ) (x : HeldLine) : Type 0 where
  pub begun : x.line.date ≤ p
  pub line : x.line ≡ line_at lines p
  pub held : x.held + x.line.holding * (p - x.line.date) ≡ holding_before lines p

pub known : (xs : List HeldLine) (p k : ℕ) (x : HeldLine) → lines_fault (map line_of xs) ≡ None → Summed (map line_of xs) (map held_of xs)
    → InForce (map line_of xs) k p → x ≡ get_or xs k x → Known (map line_of xs) p x
known xs p k x e s f q =
    let n = length-map xs line_of in
    let w : k < length xs = omega (arith, n, f.within) in
    let a : x.line ≡ get_or (map line_of xs) k x.line = ap line_of q ∙ sym (get_or-map line_of xs k x x.line w) in
    let b : x.held ≡ get_or (map held_of xs) k x.held = ap held_of q ∙ sym (get_or-map held_of xs k x x.held w) in
    record {
      begun = omega (arith, ap (λ y. y.line.date) q, date_at xs k x w, f.begun);
      line = line_told (map line_of xs) k p x.line e f a;
      held = held_told (map line_of xs) (map held_of xs) k p x.line x.held (p - x.line.date) e s f a b refl;
    }
