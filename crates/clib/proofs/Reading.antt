-- Numbers, cost lines and receipts as they are read from the front: one group, and what the items behind it are.
use Rattle.std.proofs.Common.{◌≡◌, ℕ, ◌+◌, ◌*◌, ◌/◌, ◌%◌, suc, Bool, true, false, cond, eqb, List, [], ◌∷◌, length, map, Ok, Err, Result, refl, ap, ap₂, ◌∙◌, arith}
use Rattle.std.specs.Simd.{first_chunks}
use Rattle.clib.specs.declared.error.Refusal.{Refusal}
use Rattle.clib.specs.declared.error.Refusal.TheVariants.{Layout}
use Rattle.clib.specs.Costs.{line_of, lines_due}
use Rattle.clib.specs.Groups.{groups_due}
use Rattle.clib.specs.Layers.{receipt_of, receipts_of}
use Rattle.clib.specs.Numbers.{number_of, numbers_due}
use Rattle.clib.specs.Outcomes.{and_then}

then_test : {A B : Type 0} (b : Bool) (x : A) (next : A → Result B Refusal) → cond b (next x) (Err Layout) ≡ and_then (cond b (Ok x) (Err Layout)) next
then_test true x next = refl
then_test false x next = refl

then_each :
    {A B : Type 0} (f : A → B) (x : A) (r : Result (List A) Refusal)
    → and_then (and_then r (λ xs. Ok (x ∷ xs))) (λ xs. Ok (map f xs)) ≡ and_then (and_then r (λ xs. Ok (map f xs))) (λ ys. Ok (f x ∷ ys))
then_each f x (Ok xs) = refl
then_each f x (Err e) = refl

-- one group of four, and the groups of what is behind it
pub four_more :
    {X : Type 0} (a b c d : X) (xs : List X) → groups_due 4 (a ∷ b ∷ c ∷ d ∷ xs) ≡ and_then (groups_due 4 xs) (λ gs. Ok ((a ∷ b ∷ c ∷ d ∷ []) ∷ gs))
four_more {X} a b c d xs =
    let left : length (a ∷ b ∷ c ∷ d ∷ xs) % 4 ≡ length xs % 4 = omega arith in
    let many : length (a ∷ b ∷ c ∷ d ∷ xs) / 4 ≡ suc (length xs / 4) = omega arith in
    ap₂ (λ (m k : ℕ). cond (eqb m 0) (Ok (first_chunks 4 k (a ∷ b ∷ c ∷ d ∷ xs))) (Err Layout)) left many
    ∙ then_test (eqb (length xs % 4) 0) (first_chunks 4 (length xs / 4) xs) (λ (gs : List (List X)). Ok ((a ∷ b ∷ c ∷ d ∷ []) ∷ gs))

-- three items or less make a group only where there are none
pub none_or_few : {X : Type 0} (a b c : X)
    → (groups_due {X = X} 4 [] ≡ Ok []) × (groups_due 4 (a ∷ []) ≡ Err Layout) × (groups_due 4 (a ∷ b ∷ []) ≡ Err Layout) × (groups_due 4 (a ∷ b ∷ c ∷ []) ≡ Err Layout)
none_or_few a b c = (refl, refl, refl, refl)

-- four bytes are a number
pub numbers_more :
    (a b c d : ℕ) (bs : List ℕ)
    → numbers_due (a ∷ b ∷ c ∷ d ∷ bs) ≡ and_then (numbers_due bs) (λ ns. Ok ((a * 16777216 + b * 65536 + c * 256 + d) ∷ ns))
numbers_more a b c d bs =
    ap (λ (r : Result (List (List ℕ)) Refusal). and_then r (λ gs. Ok (map number_of gs))) (four_more a b c d bs)
    ∙ then_each number_of (a ∷ b ∷ c ∷ d ∷ []) (groups_due 4 bs)

-- four numbers are a line
pub lines_more :
    (d k c h : ℕ) (ns : List ℕ)
    → lines_due (d ∷ k ∷ c ∷ h ∷ ns) ≡ and_then (lines_due ns) (λ ls. Ok (record { date = d; setup = k; unit = c; holding = h } ∷ ls))
lines_more d k c h ns =
    ap (λ (r : Result (List (List ℕ)) Refusal). and_then r (λ gs. Ok (map line_of gs))) (four_more d k c h ns)
    ∙ then_each line_of (d ∷ k ∷ c ∷ h ∷ []) (groups_due 4 ns)

-- two numbers are a receipt
pub receipts_more : (p a : ℕ) (ns : List ℕ) → receipts_of (p ∷ a ∷ ns) ≡ record { period = p; amount = a } ∷ receipts_of ns
receipts_more p a ns =
    let many : length (p ∷ a ∷ ns) / 2 ≡ suc (length ns / 2) = omega arith in
    ap (λ (k : ℕ). map receipt_of (first_chunks 2 k (p ∷ a ∷ ns))) many
