-- Each answer that is due says what is so.
use Rattle.std.proofs.Common.{◌≡◌, ℕ, suc, ◌+◌, ◌-◌, ◌<◌, true, false, leb, List, ◌∷◌, length, is_some, Some, None, Option, sym, refl, ◌∙◌, subst, arith}
use Rattle.std.proofs.lemmas.Bool.{cond_both, leb-true, leb-false, true≢false, false≢true}
use Rattle.theory.specs.Recursion.{Case, case_of, Lot}
use Rattle.theory.specs.Regeneration.{proves}
use Rattle.theory.specs.Endings.{Ending, finished_feed, faulty_feed}
use Rattle.theory.specs.Series.{window_size, period_limit, Call, read_call, take_call, Entry, periods_read, base, due_take, told, due_read, due_at, Ran}
use Rattle.theory.specs.Runs.{Unproved, SomeProved, TakeTells, RefusalTells, ReadTells, Tells, WithinLimits, AnswersTellTheTruth}
use Rattle.theory.proofs.Proving.{none_is_not_some, proves_sound, proves_complete}
use Rattle.theory.proofs.Series.{ran_front}
use Rattle.theory.proofs.Kept.{within_limits}

pub unproved : (c : Case) (b t : ℕ) → proves c b t ≡ None → Unproved c b t
unproved c b t e y p = none_is_not_some y (sym e ∙ proves_complete c b t y p)

module _ {F : Type 0} (c : Case) (n : ℕ) (ending : Ending F) (b t : ℕ) (within : WithinLimits n t b) where
  take_tells : (o : Option Lot) → proves c b t ≡ o → TakeTells {F = F} c b t (due_take t o)
  unfolding due_take
  take_tells None e = (refl, unproved c b t e)
  take_tells (Some y) e = (proves_sound c b t y e, refl)

  told_tells : (z : Ending F) → ending ≡ z → Unproved c b t → t < b + window_size → t < period_limit → t ≡ n → RefusalTells c n ending b t (told z)
  unfolding told
  told_tells finished_feed e u p q r = (u, p, q, r, e)
  told_tells (faulty_feed f) e u p q r = (u, p, q, r, e)

  then_tells : (o : Option Lot) → proves c b (suc t) ≡ o → (is_some o ≡ true → SomeProved c b (suc t)) × (is_some o ≡ false → Unproved c b (suc t))
  then_tells None e = ((λ q. absurd (false≢true q)), λ _. unproved c b (suc t) e)
  then_tells (Some y) e = ((λ _. (y, proves_sound c b (suc t) y e)), λ q. absurd (true≢false q))

  read_tells : (o p : Option Lot) → proves c b t ≡ o → proves c b (suc t) ≡ p → ReadTells c n ending b t (due_read n ending t b o p)
  unfolding due_read
  read_tells (Some y) p e f = (y, proves_sound c b t y e)
  read_tells None p e f =
      let u : Unproved c b t = unproved c b t e in
      cond_both (leb window_size (t - b)) _ _ (ReadTells c n ending b t)
      (λ g. (u, omega (arith, leb-true window_size (t - b) g, within.window)))
      (λ g.
      let near : t < b + window_size = omega (arith, leb-false window_size (t - b) g) in
      cond_both (leb period_limit t) _ _ (ReadTells c n ending b t)
      (λ h. (u, near, omega (arith, leb-true period_limit t h, within.most)))
      (λ h.
      cond_both (leb n t) _ _ (ReadTells c n ending b t)
      (λ i. told_tells ending refl u near (leb-false period_limit t h) (omega (arith, leb-true n t i, within.demands)))
      (λ i. let z = then_tells p f in (u, near, leb-false period_limit t h, leb-false n t i, z.0, z.1))))

  due_tells : (k : Call) → Tells c n ending b t k (due_at c n ending t b k)
  unfolding due_at
  due_tells read_call = read_tells (proves c b t) (proves c b (suc t)) refl refl
  due_tells take_call = take_tells (proves c b t) refl

pub truth : {F : Type 0} (K : ℕ → ℕ) (V : ℕ → ℕ → ℕ) (ds : List ℕ) (ending : Ending F) (es : List (Entry F)) → Ran K V ds ending es →
    AnswersTellTheTruth K V ds ending es
truth {F} K V ds ending es r before later e q =
    let within : WithinLimits (length ds) (periods_read before) (base before) =
    within_limits K V ds ending before (ran_front K V ds ending before (e ∷ later) (subst (Ran K V ds ending) q r)) in
    subst (Tells (case_of K V ds) (length ds) ending (base before) (periods_read before) e.call) (sym (r before later e q))
    (due_tells (case_of K V ds) (length ds) ending (base before) (periods_read before) within e.call)
