-- Series of calls: how one grows, and the one induction that serves all that a series keeps.
use Rattle.std.proofs.Common.{◌≡◌, ℕ, suc, ◌+◌, ◌-◌, ◌<◌, Bool, leb, List, [], ◌∷◌, ◌++◌, map, length, is_some, Some, None, Option, sym, refl, ap, ◌∙◌, subst, inl, inr, arith}
use Rattle.std.proofs.lemmas.List.{append-nil, append_assoc, map_push}
use Rattle.std.proofs.lemmas.Bool.{cases_Bool, leb-false, cond-true, cond-false}
use Rattle.theory.specs.Recursion.{Case, case_of, Lot}
use Rattle.theory.specs.Regeneration.{end_of, proves}
use Rattle.theory.specs.Endings.{Ending}
use Rattle.theory.specs.Series.{window_size, period_limit, Call, read_call, take_call, Handed, Refusal, none_proved, lot_waits, window_full, limit_reached, Answer, given_lot, accepted_read, refused_call, Entry, read_by, periods_read, given_by, taken, lots, due_take, told, due_read, due_at, due_answer, Ran, go_on}
use Rattle.theory.specs.Runs.{CallsHaveOneRecord}

-- what one more entry adds

pub read_append : {F : Type 0} (es gs : List (Entry F)) → periods_read (es ++ gs) ≡ periods_read es + periods_read gs
unfolding periods_read
read_append [] gs = omega arith
read_append (e ∷ es) gs = omega (arith, read_append es gs)

pub taken_append : {F : Type 0} (es gs : List (Entry F)) → taken (es ++ gs) ≡ taken es ++ taken gs
unfolding taken
taken_append [] gs = refl
taken_append (e ∷ es) gs =
    ap (λ (hs : List Handed). given_by e.answer ++ hs) (taken_append es gs) ∙ sym (append_assoc (given_by e.answer) (taken es) (taken gs))

pub read_push : {F : Type 0} (es : List (Entry F)) (e : Entry F) → periods_read (es ++ (e ∷ [])) ≡ periods_read es + read_by e.answer
unfolding periods_read
read_push es e = omega (arith, read_append es (e ∷ []))

pub taken_push : {F : Type 0} (es : List (Entry F)) (e : Entry F) → taken (es ++ (e ∷ [])) ≡ taken es ++ given_by e.answer
unfolding taken
taken_push es e = taken_append es (e ∷ []) ∙ ap (λ (hs : List Handed). taken es ++ hs) (append-nil (given_by e.answer))

-- what an answer due says, with t periods read and the lots hs taken
pub data Moves {F : Type 0} (c : Case) (n t : ℕ) (hs : List Handed) (a : Answer F) : Type 0 where
  took : (y : Lot) → proves c (end_of 0 (lots hs)) t ≡ Some y → a ≡ given_lot (record { lot = y; evidence = t }) → Moves c n t hs a
  went_on : (proved : Bool) → proves c (end_of 0 (lots hs)) t ≡ None → t < end_of 0 (lots hs) + window_size → t < period_limit → t < n → a ≡ accepted_read proved → Moves c n t hs a
  stayed : (r : Refusal F) → a ≡ refused_call r → Moves c n t hs a

module _ {F : Type 0} (c : Case) (n : ℕ) (ending : Ending F) (t : ℕ) (hs : List Handed) (a : Answer F) where
  take_moves : (o : Option Lot) → proves c (end_of 0 (lots hs)) t ≡ o → a ≡ due_take t o → Moves c n t hs a
  unfolding due_take
  take_moves None e q = stayed none_proved q
  take_moves (Some y) e q = took y e q

  read_moves : (o p : Option Lot) → proves c (end_of 0 (lots hs)) t ≡ o → a ≡ due_read n ending t (end_of 0 (lots hs)) o p → Moves c n t hs a
  unfolding due_read
  read_moves (Some y) p e q = stayed lot_waits q
  read_moves None p e q =
      let b : ℕ = end_of 0 (lots hs) in
      elim (cases_Bool (leb window_size (t - b))) [
        | inl f ↦ stayed window_full (q ∙ cond-true (leb window_size (t - b)) _ _ f)
        | inr f ↦
            elim (cases_Bool (leb period_limit t)) [
              | inl g ↦ stayed limit_reached (q ∙ (cond-false (leb window_size (t - b)) _ _ f ∙ cond-true (leb period_limit t) _ _ g))
              | inr g ↦
                  elim (cases_Bool (leb n t)) [
                    | inl h ↦
                        stayed (told ending)
                        (q ∙ (cond-false (leb window_size (t - b)) _ _ f ∙ (cond-false (leb period_limit t) _ _ g ∙ cond-true (leb n t) _ _ h)))
                    | inr h ↦
                        let room : t - b < window_size = leb-false window_size (t - b) f in
                        went_on (is_some p) e (omega arith) (leb-false period_limit t g) (leb-false n t h)
                        (q ∙ (cond-false (leb window_size (t - b)) _ _ f ∙ (cond-false (leb period_limit t) _ _ g ∙ cond-false (leb n t) _ _ h)))
                  ]
            ]
      ]

  pub due_moves : (k : Call) → a ≡ due_at c n ending t (end_of 0 (lots hs)) k → Moves c n t hs a
  unfolding due_at
  due_moves read_call q = read_moves (proves c (end_of 0 (lots hs)) t) (proves c (end_of 0 (lots hs)) (suc t)) refl q
  due_moves take_call q = take_moves (proves c (end_of 0 (lots hs)) t) refl q

module _ {F : Type 0} (K : ℕ → ℕ) (V : ℕ → ℕ → ℕ) (ds : List ℕ) (ending : Ending F) where
  -- the entries that follow others, each with the answer due
  abbrev Follow : List (Entry F) → List (Entry F) → Type 0
  Follow before [] = Unit {0}
  Follow before (e ∷ es) = (e.answer ≡ due_answer K V ds ending before e.call) × Follow (before ++ (e ∷ [])) es

  follow_from : (before es : List (Entry F)) → Ran K V ds ending (before ++ es) → Follow before es
  follow_from before [] r = tt
  follow_from before (e ∷ es) r = (
    r before es e refl,
    follow_from (before ++ (e ∷ [])) es (subst (Ran K V ds ending) (sym (append_assoc before (e ∷ []) es)) r),
  )

  follow_at : (done before later : List (Entry F)) (e : Entry F) → Follow done (before ++ (e ∷ later)) →
      e.answer ≡ due_answer K V ds ending (done ++ before) e.call
  follow_at done [] later e f = f.0 ∙ ap (λ (es : List (Entry F)). due_answer K V ds ending es e.call) (sym (append-nil done))
  follow_at done (d ∷ before) later e f =
      follow_at (done ++ (d ∷ [])) before later e f.1 ∙
      ap (λ (es : List (Entry F)). due_answer K V ds ending es e.call) (append_assoc done (d ∷ []) before)

  ran_follow : (es : List (Entry F)) → Follow [] es → Ran K V ds ending es
  ran_follow es f before later e q = follow_at [] before later e (subst (Follow []) q f)

  follow_push : (before es : List (Entry F)) (e : Entry F) → Follow before es → e.answer ≡ due_answer K V ds ending (before ++ es) e.call →
      Follow before (es ++ (e ∷ []))
  follow_push before [] e f q = (q ∙ ap (λ (es : List (Entry F)). due_answer K V ds ending es e.call) (append-nil before), tt)
  follow_push before (d ∷ es) e f q = (
    f.0,
    follow_push (before ++ (d ∷ [])) es e f.1 (q ∙ ap (λ (gs : List (Entry F)). due_answer K V ds ending gs e.call) (sym (append_assoc before (d ∷ []) es))),
  )

  -- the empty series was run
  pub ran_none : Ran K V ds ending []
  ran_none = ran_follow [] tt

  -- and so was a series with one more call and the answer due
  pub ran_push : (es : List (Entry F)) (e : Entry F) → Ran K V ds ending es → e.answer ≡ due_answer K V ds ending es e.call →
      Ran K V ds ending (es ++ (e ∷ []))
  ran_push es e r q = ran_follow (es ++ (e ∷ [])) (follow_push [] es e (follow_from [] es r) q)

  -- a beginning of a series that was run was run
  pub ran_front : (es gs : List (Entry F)) → Ran K V ds ending (es ++ gs) → Ran K V ds ending es
  ran_front es gs r before later e q =
      r before (later ++ gs) e (ap (λ (xs : List (Entry F)). xs ++ gs) q ∙ append_assoc before (e ∷ later) gs)

  module _ (P : ℕ → List Handed → Type 0)
      (read : (t : ℕ) (hs : List Handed) → P t hs → proves (case_of K V ds) (end_of 0 (lots hs)) t ≡ None →
      t < end_of 0 (lots hs) + window_size → t < period_limit → t < length ds → P (suc t) hs)
      (take : (t : ℕ) (hs : List Handed) (y : Lot) → P t hs → proves (case_of K V ds) (end_of 0 (lots hs)) t ≡ Some y →
      P t (hs ++ (record { lot = y; evidence = t } ∷ []))) where
    keeps_entry : (es : List (Entry F)) (e : Entry F) → P (periods_read es) (taken es) → e.answer ≡ due_answer K V ds ending es e.call →
        P (periods_read (es ++ (e ∷ []))) (taken (es ++ (e ∷ [])))
    unfolding read_by given_by
    keeps_entry es e p q =
        let t : ℕ = periods_read es in
        let hs : List Handed = taken es in
        rw (read_push es e, taken_push es e)
        elim (due_moves (case_of K V ds) (length ds) ending t hs e.answer e.call q) [
          | took y f g ↦ rw g (let z : t + 0 ≡ t = omega arith in rw z (take t hs y p f))
          | went_on b f u v w g ↦ rw g (let z : t + 1 ≡ suc t = omega arith in rw (z, append-nil hs) (read t hs p f u v w))
          | stayed r g ↦ rw g (let z : t + 0 ≡ t = omega arith in rw (z, append-nil hs) p)
        ]

    keeps_all : (before es : List (Entry F)) → Follow before es → P (periods_read before) (taken before) → P (periods_read (before ++ es)) (taken (before ++ es))
    keeps_all before [] f p = rw (append-nil before) p
    keeps_all before (e ∷ es) f p =
        rw (← (append_assoc before (e ∷ []) es)) (keeps_all (before ++ (e ∷ [])) es f.1 (keeps_entry before e p f.0))

    -- what holds at first, and is kept by each accepted read and each take, holds after every series
    pub series_ind : P 0 [] → (es : List (Entry F)) → Ran K V ds ending es → P (periods_read es) (taken es)
    unfolding periods_read taken
    series_ind p es r = keeps_all [] es (follow_from [] es r) p

  -- every list of calls has one record

  abbrev calls_of_lem : List (Entry F) → List Call
  calls_of_lem es = map (λ (e : Entry F). e.call) es

  went_on_ran : (ks : List Call) (before : List (Entry F)) → Ran K V ds ending before → Ran K V ds ending (go_on K V ds ending before ks)
  unfolding go_on
  went_on_ran [] before r = r
  went_on_ran (k ∷ ks) before r =
      went_on_ran ks (before ++ (record { call = k; answer = due_answer K V ds ending before k } ∷ []))
      (ran_push before (record { call = k; answer = due_answer K V ds ending before k }) r refl)

  went_on_calls : (ks : List Call) (before : List (Entry F)) → calls_of_lem (go_on K V ds ending before ks) ≡ calls_of_lem before ++ ks
  unfolding go_on
  went_on_calls [] before = sym (append-nil (calls_of_lem before))
  went_on_calls (k ∷ ks) before =
      let e : Entry F = record { call = k; answer = due_answer K V ds ending before k } in
      went_on_calls ks (before ++ (e ∷ [])) ∙
      (ap (λ (js : List Call). js ++ ks) (map_push (λ (d : Entry F). d.call) before e) ∙ append_assoc (calls_of_lem before) (k ∷ []) ks)

  went_on_alone : (ks : List Call) (before es : List (Entry F)) → Follow before es → calls_of_lem es ≡ ks → before ++ es ≡ go_on K V ds ending before ks
  unfolding go_on
  went_on_alone [] before [] f q = append-nil before
  went_on_alone [] before (e ∷ es) f q = cc
  went_on_alone (k ∷ ks) before [] f q = cc
  went_on_alone (k ∷ ks) before (e ∷ es) f q =
      let call : e.call ≡ k = cc in
      let rest : calls_of_lem es ≡ ks = cc in
      let answer : e.answer ≡ due_answer K V ds ending before k = f.0 ∙ ap (due_answer K V ds ending before) call in
      let same : e ≡ record { call = k; answer = due_answer K V ds ending before k } = λ i. record { call = call i; answer = answer i } in
      sym (append_assoc before (e ∷ []) es) ∙
      (went_on_alone ks (before ++ (e ∷ [])) es f.1 rest ∙
      ap (λ (d : Entry F). go_on K V ds ending (before ++ (d ∷ [])) ks) same)

pub one_record : (F : Type 0) → CallsHaveOneRecord F
one_record F K V ds ending ks = (
  went_on_ran K V ds ending ks [] (ran_none K V ds ending),
  went_on_calls K V ds ending ks [],
  λ es r q. went_on_alone K V ds ending ks [] es (follow_from K V ds ending [] es r) q,
)
