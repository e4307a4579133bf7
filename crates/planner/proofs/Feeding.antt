-- What a feed's answers say of the demands still to come.
use Rattle.std.proofs.Common.{◌≡◌, ℕ, zero, suc, ◌<◌, ◌≤◌, List, [], ◌∷◌, length, get_or, drop, Some, None, Ok, Err, sym, refl, ap, ◌∙◌, add-zero, arith, length-drop, get_or-drop}
use Rattle.theory.specs.Endings.{Ending, finished_feed, faulty_feed}
use Rattle.feeds.specs.Feeding.{next_told, others}
use Rattle.feeds.specs.declared.fault.FeedFault.{FeedFault}

-- two different numbers are not the same: what an equation of two different cases comes to
pub never : ◌≡◌ {A = ℕ} 0 1 → ⊥
never e = omega arith

pub told_some : (l : List ℕ) (e : Ending FeedFault) (d : ℕ) → Ok (Some d) ≡ next_told l e → l ≡ d ∷ others l
told_some [] finished_feed d p = absurd (never (cc))
told_some [] (faulty_feed f) d p = absurd (never (cc))
told_some (x ∷ l) e d p = let same : x ≡ d = cc in ap (λ y. y ∷ l) same

pub told_end : (l : List ℕ) (e : Ending FeedFault) → Ok None ≡ next_told l e → (l ≡ []) × (e ≡ finished_feed)
told_end [] finished_feed p = (refl, refl)
told_end [] (faulty_feed f) p = absurd (never (cc))
told_end (x ∷ l) e p = absurd (never (cc))

pub told_fault : (l : List ℕ) (e : Ending FeedFault) (f : FeedFault) → Err f ≡ next_told l e → (l ≡ []) × (e ≡ faulty_feed f)
told_fault [] finished_feed f p = absurd (never (cc))
told_fault [] (faulty_feed g) f p = let same : g ≡ f = cc in (refl, ap faulty_feed same)
told_fault (x ∷ l) e f p = absurd (never (cc))

-- after t periods of ds, the next demand is entry t
pub next_demand : (ds l : List ℕ) (t d : ℕ) → l ≡ drop t ds → l ≡ d ∷ others l → (get_or ds t 0 ≡ d) × (t < length ds) × (others l ≡ drop (suc t) ds)
next_demand ds l t d at is =
    let here : drop t ds ≡ d ∷ others l = sym at ∙ is in
    let some : length (drop t ds) ≡ suc (length (others l)) = ap length here in (
      ap (λ k. get_or ds k 0) (sym (add-zero t)) ∙ sym (get_or-drop t ds 0 0) ∙ ap (λ (xs : List ℕ). get_or xs 0 0) here,
      omega (arith, length-drop t ds),
      sym (drop_more ds t d (others l) here),
    )
  where
    drop_more : (xs : List ℕ) (k y : ℕ) (ys : List ℕ) → drop k xs ≡ y ∷ ys → drop (suc k) xs ≡ ys
    drop_more [] zero y ys p = absurd (never (cc))
    drop_more [] (suc k) y ys p = absurd (never (cc))
    drop_more (x ∷ xs) zero y ys p = cc
    drop_more (x ∷ xs) (suc k) y ys p = drop_more xs k y ys p

-- where none is left, all were read
pub none_left : (ds l : List ℕ) (t : ℕ) → t ≤ length ds → l ≡ drop t ds → l ≡ [] → t ≡ length ds
none_left ds l t within at none = omega (arith, length-drop t ds, ap length (sym at ∙ none))
