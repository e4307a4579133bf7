-- Reading a word of letters as calls, one by one.
use Rattle.std.proofs.Common.{◌≡◌, ℕ, ◌+◌, ◌<◌, ◌≤◌, List, [], ◌∷◌, ◌++◌, length, get_or, drop, Some, None, Option, sym, refl, ap, ◌∙◌, append_assoc, append-nil}
use Rattle.std.proofs.lemmas.List.{drop_all, drop_more}
use Rattle.planner.specs.declared.calls.Call.{Call}
use Rattle.rolling_report.specs.Replaying.{call_of_letter, calls_then, calls_of}

-- calls in front of others that may be there
abbrev pub behind_calls : List Call → Option (List Call) → Option (List Call)
behind_calls ks None = None
behind_calls ks (Some js) = Some (ks ++ js)

pub behind_none : (o : Option (List Call)) → o ≡ behind_calls [] o
behind_none None = refl
behind_none (Some js) = refl

module _ (letters : List ℕ) (i : ℕ) (within : i < length letters) where
  abbrev b : ℕ
  b = get_or letters i 0

  at_letter : calls_of (drop i letters) ≡ calls_then (call_of_letter b) (calls_of (drop (i + 1) letters))
  unfolding calls_of
  at_letter = ap calls_of (drop_more letters i 0 within)

  -- a call more
  pub letter_more : (call : Call) (was now : List Call) → call_of_letter b ≡ Some call → now ≡ was ++ (call ∷ []) →
      calls_of letters ≡ behind_calls was (calls_of (drop i letters)) → calls_of letters ≡ behind_calls now (calls_of (drop (i + 1) letters))
  letter_more call was now stands pushed inv =
      inv ∙ ap (behind_calls was) (at_letter ∙ ap (λ o. calls_then o rest) stands) ∙ go rest ∙ ap (λ (ks : List Call). behind_calls ks rest) (sym pushed)
    where
      rest : Option (List Call)
      rest = calls_of (drop (i + 1) letters)

      go : (o : Option (List Call)) → behind_calls was (calls_then (Some call) o) ≡ behind_calls (was ++ (call ∷ [])) o
      go None = refl
      go (Some js) = ap Some (sym (append_assoc was (call ∷ []) js))

  -- another letter
  pub letter_other : (was : List Call) → call_of_letter b ≡ None → calls_of letters ≡ behind_calls was (calls_of (drop i letters)) → None ≡ calls_of letters
  letter_other was stands inv = sym (inv ∙ ap (behind_calls was) (at_letter ∙ ap (λ o. calls_then o (calls_of (drop (i + 1) letters))) stands))

-- no letter is left
pub letters_all : (letters : List ℕ) (i : ℕ) (calls : List Call) → length letters ≤ i →
    calls_of letters ≡ behind_calls calls (calls_of (drop i letters)) → Some calls ≡ calls_of letters
unfolding calls_of
letters_all letters i calls h inv = sym (inv ∙ ap (λ (bs : List ℕ). behind_calls calls (calls_of bs)) (drop_all i letters h) ∙ ap Some (append-nil calls))
