-- Reading a part of what a reader has left.
use Rattle.std.proofs.Common.{◌≡◌, ℕ, List, [], ◌++◌, take, Some, None, Option, IfSome, option_map, subst}

-- what is read through a limit begins what is left
pub limited : {R : Type 0} (remaining : R → Option (List ℕ)) (n limit : ℕ) (from inner : R) (was now : List ℕ) → limit ≡ n → inner ≡ from → was ≡ [] →
    IfSome (option_map (take limit) (remaining inner)) (λ xs. now ≡ was ++ xs) → IfSome (remaining from) (λ bs. now ≡ take n bs)
limited {R} remaining n limit from inner was now l i w h =
    go (remaining from)
    (subst (λ (r : R). IfSome (option_map (take n) (remaining r)) (λ xs. now ≡ xs)) i
    (subst (λ m. IfSome (option_map (take m) (remaining inner)) (λ xs. now ≡ xs)) l
    (subst (λ (ys : List ℕ). IfSome (option_map (take limit) (remaining inner)) (λ xs. now ≡ ys ++ xs)) w h)))
  where
    go : (o : Option (List ℕ)) → IfSome (option_map (take n) o) (λ xs. now ≡ xs) → IfSome o (λ bs. now ≡ take n bs)
    go None e = tt
    go (Some bs) e = e
