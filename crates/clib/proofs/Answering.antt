-- What is handed over: the answer, and the caller's bytes.
use Rattle.std.proofs.Common.{◌≡◌, ℕ, ◌+◌, ◌<◌, ◌≤◌, true, false, ltb, leb, List, ◌++◌, map, length, drop, Ok, Err, vec_items, Result, Vec, sym, refl, ap, ◌∙◌, inl, inr, arith}
use lib.ListN.{length-map}
use Rattle.std.proofs.lemmas.Bool.{cond-true, cond-false, lt-ltb, le-ltb, le-leb, lt-leb}
use Rattle.std.specs.declared.alloc.Global.{Global}
use Rattle.lots.specs.declared.failure.Failure.{Failure}
use Rattle.lots.specs.declared.failure.Failure.TheVariants.{Refused as IsRefused, NoMemory as WantsMemory}
use Rattle.lots.specs.declared.lot.Lot.{Lot}
use Rattle.lots.specs.Lots.{terms}
use Rattle.lotfile.specs.declared.fault.WriteFault.{WriteFault}
use Rattle.lotfile.specs.declared.fault.WriteFault.TheVariants.{NoRoom, TooMany}
use Rattle.lotfile.specs.Filing.{Filed}
use Rattle.lotfile.specs.LotWords.{file_bytes}
use Rattle.lotfile.specs.Writing.{spliced}
use Rattle.clib.specs.declared.answer.Answer.{Answer}
use Rattle.clib.specs.declared.error.Refusal.{Refusal}
use Rattle.clib.specs.declared.error.Refusal.TheVariants.{Writing}
use Rattle.clib.specs.declared.error.PlanError.{PlanError}
use Rattle.clib.specs.declared.error.PlanError.TheVariants.{Refused, NoMemory}
use Rattle.clib.specs.Answers.{fitting, answer_of, left_of, error_answer, Answered}
use Rattle.clib.specs.Outcomes.{and_then, Told, of_file}
use Rattle.clib.specs.Plans.{filed}

-- the bytes of a vector
abbrev bytes_of : Vec ℕ Global → List ℕ
bytes_of v = vec_items v

-- the file that is due, if it fits
abbrev fits : List ℕ → Result (List ℕ) Refusal → Result (List ℕ) Refusal
fits out due = and_then due (fitting (length out))

handed : (out : List ℕ) (due file : Result (List ℕ) Refusal) → fits out due ≡ file → Answered out due (answer_of file) (left_of out file)
handed out due file q = inl (sym (ap answer_of q), sym (ap (left_of out) q))

pub handed_error : (out : List ℕ) (due : Result (List ℕ) Refusal) (e : PlanError) → Told bytes_of (Err e) due → Answered out due (error_answer e) out
handed_error out due (Refused f) h = handed out due (Err f) (ap (fits out) h)
handed_error out due NoMemory h = inr (refl, refl)

pub handed_no_room :
    (out : List ℕ) (due : Result (List ℕ) Refusal) (v : Vec ℕ Global) → length out < length (vec_items v) → Told bytes_of (Ok v) due
    → Answered out due (answer_of (Err (Writing NoRoom))) out
handed_no_room out due v small h =
    let few : ltb (length out) (length (vec_items v)) ≡ true = lt-ltb (length out) (length (vec_items v)) small in
    handed out due (Err (Writing NoRoom)) (ap (fits out) h ∙ cond-true _ _ _ few)

-- bytes put at the front
at_front : (out bytes : List ℕ) → bytes ++ drop (length bytes) out ≡ spliced out 0 bytes
unfolding spliced
at_front out bytes = let e : length bytes ≡ 0 + length bytes = omega arith in ap (λ k. bytes ++ drop k out) e

abbrev wrote : ℕ → Answer
wrote n = record { refusal = 0; place = 0; written = n }

pub handed_whole :
    (out : List ℕ) (due : Result (List ℕ) Refusal) (v : Vec ℕ Global) (n : ℕ) (front : List ℕ) → n ≡ length (vec_items v) → n ≤ length out
    → front ≡ vec_items v → Told bytes_of (Ok v) due → Answered out due (wrote n) (front ++ drop n out)
handed_whole out due v n front e room f h =
    let enough : ltb (length out) (length (vec_items v)) ≡ false = le-ltb (length out) (length (vec_items v)) (omega (arith, e)) in
    rw (e, f, at_front out (vec_items v)) (handed out due (Ok (vec_items v)) (ap (fits out) h ∙ cond-false _ _ _ enough))

-- a lot file as it is due
pub filed_whole : (lots : List Lot) (v : Vec ℕ Global) → Filed lots (Ok v) → filed (map terms lots) ≡ Ok (vec_items v)
filed_whole lots v h =
    let few : length (map terms lots) ≤ 10000 = omega (arith, h.0, length-map lots terms) in
    cond-true (leb (length (map terms lots)) 10000) (Ok (file_bytes (map terms lots))) (Err (Writing TooMany)) (le-leb (length (map terms lots)) 10000 few)
    ∙ ap Ok (sym h.1)

pub filed_error : (lots : List Lot) (e : Failure WriteFault) → Filed lots (Err e) → Told bytes_of (Err (of_file e)) (filed (map terms lots))
filed_error lots (IsRefused f) h =
    let many : 10000 < length (map terms lots) = omega (arith, h.0, length-map lots terms) in
    cond-false (leb (length (map terms lots)) 10000) (Ok (file_bytes (map terms lots))) (Err (Writing TooMany)) (lt-leb (length (map terms lots)) 10000 many)
    ∙ ap (λ x. Err (Writing x)) (sym h.1)
filed_error lots (WantsMemory e) h = tt
