-- What the program answers in each of its modes.
use Rattle.std.specs.Prelude.{ℕ, List, Result}
use Rattle.feeds.specs.Orders.{orders}
use Rattle.feeds.specs.Text.{forecast}
use Rattle.reporting.specs.declared.refusal.Refusal.{Refusal}
use Rattle.reporting.specs.LotFiles.{file_of_plan}
use Rattle.reporting.specs.Planning.{input_plan}
use Rattle.reporting.specs.Printing.{printed_plan}
use Rattle.report.specs.Planning.{plan_due}

-- what is printed for an input whose demands are a forecast text
abbrev pub printed : List ℕ → List ℕ
printed bs = printed_plan (input_plan plan_due (forecast 0 0) bs)

-- what is printed for an input whose demands are order words
abbrev pub printed_orders : List ℕ → List ℕ
printed_orders bs = printed_plan (input_plan plan_due (λ text. orders text 0 0) bs)

-- the file for an input whose demands are a forecast text
abbrev pub file_due : List ℕ → Result (List ℕ) Refusal
file_due bs = file_of_plan (input_plan plan_due (forecast 0 0) bs)
