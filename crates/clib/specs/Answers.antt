-- What the caller is told, and what is written for it.
use Rattle.std.specs.Prelude.{◌≡◌, ℕ, if◌then◌else◌, ◌⊎◌, List, length, Ok, Err, Result, nat_lt}
use Rattle.lotfile.specs.declared.fault.WriteFault.TheVariants.{NoRoom}
use Rattle.lotfile.specs.Writing.{spliced}
use Rattle.clib.specs.declared.answer.Answer.{Answer}
use Rattle.clib.specs.declared.error.Refusal.{Refusal}
use Rattle.clib.specs.declared.error.Refusal.TheVariants.{Writing}
use Rattle.clib.specs.declared.error.PlanError.{PlanError}
use Rattle.clib.specs.declared.error.PlanError.TheVariants.{Refused, NoMemory}
use Rattle.clib.specs.Outcomes.{and_then}
use Rattle.clib.specs.Refusals.{refusal_number, refusal_place}

-- a file that fits into so many bytes
abbrev pub fitting : ℕ → List ℕ → Result (List ℕ) Refusal
fitting room bytes = if nat_lt room (length bytes) then Err (Writing NoRoom) else Ok bytes

-- refusal 0 and how many bytes were written, or the refusal by its number and place
abbrev pub answer_of : Result (List ℕ) Refusal → Answer
answer_of (Ok bytes) = record { refusal = 0; place = 0; written = length bytes }
answer_of (Err f) = record { refusal = refusal_number f; place = refusal_place f; written = 0 }

-- the caller's bytes with the file at their front; as they were where it is refused
abbrev pub left_of : List ℕ → Result (List ℕ) Refusal → List ℕ
left_of out (Ok bytes) = spliced out 0 bytes
left_of out (Err f) = out

-- what is answered where memory was wanting
abbrev pub no_memory : Answer
no_memory = record { refusal = 4294967295; place = 0; written = 0 }

-- what is answered where there is no plan
abbrev pub error_answer : PlanError → Answer
error_answer (Refused f) = answer_of (Err f)
error_answer NoMemory = no_memory

-- the answer and the caller's bytes after it are those of the file that is due, if it fits; or memory was wanting, and no byte changed
abbrev pub Answered : List ℕ → Result (List ℕ) Refusal → Answer → List ℕ → Type 0
Answered out due answer left =
    let file : Result (List ℕ) Refusal = and_then due (fitting (length out)) in
    ((answer ≡ answer_of file) × (left ≡ left_of out file)) ⊎ ((answer ≡ no_memory) × (left ≡ out))
