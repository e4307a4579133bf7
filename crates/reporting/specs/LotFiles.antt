-- The lot file of an input's plan.
use Rattle.std.specs.Prelude.{◌≡◌, ℕ, List, Some, None, Ok, Err, vec_items, Option, Result, Vec}
use Rattle.std.specs.declared.alloc.Global.{Global}
use Rattle.lots.specs.declared.failure.Failure.{Failure}
use Rattle.lots.specs.declared.failure.Failure.TheVariants.{Refused, NoMemory}
use Rattle.lots.specs.Lots.{Terms}
use Rattle.lotfile.specs.LotWords.{file_bytes}
use Rattle.planner.specs.declared.refusals.ReadRefusal.{ReadRefusal}
use Rattle.reporting.specs.declared.refusal.Refusal.{Refusal}
use Rattle.reporting.specs.declared.refusal.Refusal.TheVariants.{Read}
use Rattle.reporting.specs.Planning.{Plan}

-- the file of the lots of demands that were read to their end
abbrev pub file_unless : Option ReadRefusal → List Terms → Result (List ℕ) Refusal
file_unless None ys = Ok (file_bytes ys)
file_unless (Some r) ys = Err (Read r)

-- the file of a plan's lots, or the refusal in its place
abbrev pub file_of_plan : Result Plan Refusal → Result (List ℕ) Refusal
file_of_plan (Ok p) = file_unless p.stop p.lots
file_of_plan (Err r) = Err r

-- what came of filing is what was due, or memory was wanting
abbrev pub FiledAs : Result (List ℕ) Refusal → Result (Vec ℕ Global) (Failure Refusal) → Type 0
FiledAs due (Ok v) = Ok (vec_items v) ≡ due
FiledAs due (Err (Refused r)) = Err r ≡ due
FiledAs due (Err (NoMemory e)) = Unit {0}
