-- How steps that may be refused follow each other, and what code that may also lack memory tells of them.
use Rattle.std.specs.Prelude.{◌≡◌, Some, None, Ok, Err, Option, Result}
use Rattle.lots.specs.declared.failure.Failure.{Failure}
use Rattle.lots.specs.declared.failure.Failure.TheVariants.{Refused as IsRefused, NoMemory as WantsMemory}
use Rattle.costs.specs.declared.lines.DatedCostsFault.{DatedCostsFault}
use Rattle.clib.specs.declared.error.Refusal.{Refusal}
use Rattle.lotfile.specs.declared.fault.WriteFault.{WriteFault}
use Rattle.clib.specs.declared.error.Refusal.TheVariants.{Costs, Writing}
use Rattle.clib.specs.declared.error.PlanError.{PlanError}
use Rattle.clib.specs.declared.error.PlanError.TheVariants.{Refused, NoMemory}

-- what follows a step: nothing where it is refused
abbrev pub and_then : {A B : Type 0} → Result A Refusal → (A → Result B Refusal) → Result B Refusal
and_then (Ok x) next = next x
and_then (Err f) next = Err f

-- what is due, unless something is wrong with it
abbrev pub unless : {A E : Type 0} → Option E → (E → Refusal) → A → Result A Refusal
unless None refused x = Ok x
unless (Some e) refused x = Err (refused e)

-- code tells what is due, seen as `view` shows it, or that memory was wanting
abbrev pub Told : {A B : Type 0} → (A → B) → Result A PlanError → Result B Refusal → Type 0
Told view (Ok x) due = due ≡ Ok (view x)
Told view (Err (Refused f)) due = due ≡ Err f
Told view (Err NoMemory) due = Unit {0}

-- an error of making a dated model as one of planning
abbrev pub of_costs : Failure DatedCostsFault → PlanError
of_costs (IsRefused fault) = Refused (Costs fault)
of_costs (WantsMemory e) = NoMemory

-- an error of making a lot file as one of planning
abbrev pub of_file : Failure WriteFault → PlanError
of_file (IsRefused fault) = Refused (Writing fault)
of_file (WantsMemory e) = NoMemory
