-- Eager planning is a run of reads and takes: one step of it is one call.
use Rattle.std.proofs.Common.{◌≡◌, ℕ, zero, suc, ◌+◌, ◌-◌, ◌*◌, ◌<◌, List, [], ◌∷◌, ◌++◌, length, Some, None, Option, sym, refl, ap, ◌∙◌, subst, append_assoc, append-nil, arith}
use Rattle.theory.specs.Eager.{Outcome, with_lot, after_read, eager_step, eager_in, RunTo, EagerPlanningIsARun}
use Rattle.theory.specs.Endings.{Ending}
use Rattle.theory.specs.Recursion.{case_of, Lot}
use Rattle.theory.specs.Regeneration.{proves, end_of}
use Rattle.theory.specs.Series.{read_call, take_call, Handed, Answer, given_lot, accepted_read, refused_call, Entry, given_by, read_by, periods_read, taken, lots, base, due_take, due_read, due_at, due_answer, Ran}
use Rattle.theory.proofs.Kept.{end_push, within_limits}
use Rattle.theory.proofs.Proving.{none_is_not_some, proves_sound, proved_ends}
use Rattle.theory.proofs.Series.{Moves, took, went_on, stayed, due_moves, taken_push, read_push, ran_none, ran_push}

-- an outcome with more lots in front
abbrev pub with_lots : {F : Type 0} → List Handed → Outcome F → Outcome F
with_lots hs o = record { lots = hs ++ o.lots; read = o.read; base = o.base; stop = o.stop }

pub with_push : {F : Type 0} (hs : List Handed) (h : Handed) (o : Outcome F) → with_lots hs (with_lot h o) ≡ with_lots (hs ++ (h ∷ [])) o
with_push hs h o = ap (λ (xs : List Handed). record { lots = xs; read = o.read; base = o.base; stop = o.stop }) (sym (append_assoc hs (h ∷ []) o.lots))

-- what is still to come of eager planning, in calls: two for each period to be read, and one for each period to be frozen
abbrev pub still : ℕ → ℕ → ℕ
still t b = 2 * (10000 - t) + (t - b)

module _ {F : Type 0} (K : ℕ → ℕ) (V : ℕ → ℕ → ℕ) (ds : List ℕ) (ending : Ending F) where
  -- with k calls more, from t periods read and the base b on
  abbrev on : ℕ → ℕ → ℕ → Outcome F
  on k t b = eager_in (case_of K V ds) (length ds) ending k t b

  -- one step of eager planning, by what is proved
  pub step_take : (k t b : ℕ) (h : Handed) → proves (case_of K V ds) b t ≡ Some h.lot → h.evidence ≡ t → on (suc k) t b ≡ with_lot h (on k t h.lot.through)
  unfolding eager_in eager_step
  step_take k t b h is at =
      ap (λ o. eager_step (length ds) ending (on k) t b o (proves (case_of K V ds) b (suc t))) is
      ∙ ap (λ n. with_lot (record { lot = h.lot; evidence = n }) (on k t h.lot.through)) (sym at)

  pub step_read : (k t b : ℕ) (a : Answer F) → proves (case_of K V ds) b t ≡ None → a ≡ due_at (case_of K V ds) (length ds) ending t b read_call →
      on (suc k) t b ≡ after_read (on k) t b a
  unfolding eager_in eager_step due_at
  step_read k t b a none is =
      ap (λ o. eager_step (length ds) ending (on k) t b o (proves (case_of K V ds) b (suc t))) none
      ∙ ap (after_read (on k) t b) (sym (is ∙ ap (λ o. due_read (length ds) ending t b o (proves (case_of K V ds) b (suc t))) none))

  -- a series goes on to where eager planning ends
  abbrev Goes_on : ℕ → List (Entry F) → Type 0
  Goes_on k es = RunTo K V ds ending (with_lots (taken es) (on k (periods_read es) (base es)))

  module _ (k : ℕ) (next : (es : List (Entry F)) → Ran K V ds ending es → still (periods_read es) (base es) < k → Goes_on k es)
      (es : List (Entry F)) (ran : Ran K V ds ending es) (enough : still (periods_read es) (base es) < suc k) where
    abbrev t : ℕ
    t = periods_read es

    abbrev b : ℕ
    b = base es

    by_take : (y : Lot) → proves (case_of K V ds) b t ≡ Some y → Goes_on (suc k) es
    unfolding due_at due_take given_by read_by
    by_take y is =
        let h : Handed = record { lot = y; evidence = t } in
        let e : Entry F = record { call = take_call; answer = given_lot h } in
        let reads : periods_read (es ++ (e ∷ [])) ≡ t = omega (arith, read_push es e) in
        let takes : taken (es ++ (e ∷ [])) ≡ taken es ++ (h ∷ []) = taken_push es e in
        let moved : base (es ++ (e ∷ [])) ≡ y.through = ap (λ (hs : List Handed). end_of 0 (lots hs)) takes ∙ end_push 0 (taken es) h in
        let inside = proved_ends (case_of K V ds) b t y (proves_sound (case_of K V ds) b t y is) in
        let later = next (es ++ (e ∷ [])) (ran_push K V ds ending es e ran (ap (due_take t) (sym is)))
        (omega (arith, enough, reads, moved, inside.0, inside.1, inside.2)) in
        subst (RunTo K V ds ending)
        (ap (λ (hs : List Handed). with_lots hs (on k (periods_read (es ++ (e ∷ []))) (base (es ++ (e ∷ []))))) takes
        ∙ ap (λ n. with_lots (taken es ++ (h ∷ [])) (on k n (base (es ++ (e ∷ []))))) reads
        ∙ ap (λ n. with_lots (taken es ++ (h ∷ [])) (on k t n)) moved
        ∙ sym (with_push (taken es) h (on k t y.through))
        ∙ ap (with_lots (taken es)) (sym (step_take k t b h is refl)))
        later

    by_read : proves (case_of K V ds) b t ≡ None → Moves (case_of K V ds) (length ds) t (taken es) (due_answer K V ds ending es read_call) → Goes_on (suc k) es
    unfolding given_by read_by after_read
    by_read none (took y is due) = absurd (none_is_not_some y (sym none ∙ is))
    by_read none (went_on proved is room few there due) =
        let e : Entry F = record { call = read_call; answer = accepted_read proved } in
        let reads : periods_read (es ++ (e ∷ [])) ≡ suc t = omega (arith, read_push es e) in
        let takes : taken (es ++ (e ∷ [])) ≡ taken es = taken_push es e ∙ append-nil (taken es) in
        let stays : base (es ++ (e ∷ [])) ≡ b = ap (λ (hs : List Handed). end_of 0 (lots hs)) takes in
        let later = next (es ++ (e ∷ [])) (ran_push K V ds ending es e ran (sym due))
        (omega (arith, enough, reads, stays, few, (within_limits K V ds ending es ran).behind)) in
        subst (RunTo K V ds ending)
        (ap (λ (hs : List Handed). with_lots hs (on k (periods_read (es ++ (e ∷ []))) (base (es ++ (e ∷ []))))) takes
        ∙ ap (λ n. with_lots (taken es) (on k n (base (es ++ (e ∷ []))))) reads
        ∙ ap (λ n. with_lots (taken es) (on k (suc t) n)) stays
        ∙ ap (with_lots (taken es)) (sym (step_read k t b (accepted_read proved) none (sym due))))
        later
    by_read none (stayed r due) =
        subst (RunTo K V ds ending)
        (ap (with_lots (taken es)) (sym (step_read k t b (refused_call r) none (sym due))))
        (record { es = es; ran = ran; took = sym (append-nil (taken es)); reads = refl; ends = refl; refused = due })

    by_proved : (o : Option Lot) → proves (case_of K V ds) b t ≡ o → Goes_on (suc k) es
    by_proved (Some y) is = by_take y is
    by_proved None is = by_read is (due_moves (case_of K V ds) (length ds) ending t (taken es) (due_answer K V ds ending es read_call) read_call refl)

  goes_on : (k : ℕ) (es : List (Entry F)) → Ran K V ds ending es → still (periods_read es) (base es) < k → Goes_on k es
  goes_on zero es ran enough = absurd (omega (arith, enough))
  goes_on (suc k) es ran enough = by_proved k (goes_on k) es ran enough (proves (case_of K V ds) (base es) (periods_read es)) refl

pub eager_run : (F : Type 0) → EagerPlanningIsARun F
unfolding periods_read taken end_of
eager_run F K V ds ending = goes_on K V ds ending 20001 [] (ran_none K V ds ending) (omega arith)
