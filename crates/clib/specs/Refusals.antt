-- What each refusal tells: its number and its place.
use Rattle.std.specs.Prelude.{ℕ}
use Rattle.costs.specs.Dated.{lines_number}
use Rattle.feeds.specs.Faults.{fault_number, fault_place}
use Rattle.feeds.specs.Receipts.{netting_number}
use Rattle.lotfile.specs.Writing.{write_number}
use Rattle.planner.specs.Refusals.{read_number}
use Rattle.planner.specs.declared.refusals.ReadRefusal.{ReadRefusal}
use Rattle.planner.specs.declared.refusals.ReadRefusal.TheVariants.{Feed}
use Rattle.clib.specs.declared.error.Refusal.{Refusal}
use Rattle.clib.specs.declared.error.Refusal.TheVariants.{Layout, Costs, Netting, Reading, Writing}

-- a fault of the feed is told under its own number, any other stop under the planner's
abbrev pub stop_number : ReadRefusal → ℕ
stop_number (Feed fault) = fault_number fault
stop_number stop = read_number stop

-- where the feed was wrong; 0 for any other stop
abbrev pub stop_place : ReadRefusal → ℕ
stop_place (Feed fault) = fault_place fault
stop_place stop = 0

-- the number of a refusal: 26 for another layout, and what each layer says of its own
abbrev pub refusal_number : Refusal → ℕ
refusal_number Layout = 26
refusal_number (Costs fault) = lines_number fault
refusal_number (Netting fault) = netting_number fault
refusal_number (Reading stop) = stop_number stop
refusal_number (Writing fault) = write_number fault

-- the byte of the demands that is wrong; 0 where no byte of them is
abbrev pub refusal_place : Refusal → ℕ
refusal_place (Reading stop) = stop_place stop
refusal_place other = 0
