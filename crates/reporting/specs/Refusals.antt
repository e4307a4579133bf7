-- What each refusal tells: its number and its place.
use Rattle.std.specs.Prelude.{ℕ}
use Rattle.costs.specs.Constant.{fault_number as cost_number}
use Rattle.feeds.specs.Faults.{fault_number as feed_number, fault_place as feed_place}
use Rattle.planner.specs.Refusals.{read_number}
use Rattle.planner.specs.declared.refusals.ReadRefusal.{ReadRefusal}
use Rattle.planner.specs.declared.refusals.ReadRefusal.TheVariants.{LotWaits, WindowFull, LimitReached, FeedEnded, Feed}
use Rattle.reporting.specs.declared.refusal.Refusal.{Refusal}
use Rattle.reporting.specs.declared.refusal.Refusal.TheVariants.{TooLong, OtherLayout, Costs, Read}

-- a refused read is told under its own number, and a fault of the feed under the fault's
abbrev pub read_told : ReadRefusal → ℕ
read_told LotWaits = read_number LotWaits
read_told WindowFull = read_number WindowFull
read_told LimitReached = read_number LimitReached
read_told FeedEnded = read_number FeedEnded
read_told (Feed fault) = feed_number fault

-- a fault of the feed is told at its own place, every other refusal of a read at 0
abbrev pub read_place : ReadRefusal → ℕ
read_place LotWaits = 0
read_place WindowFull = 0
read_place LimitReached = 0
read_place FeedEnded = 0
read_place (Feed fault) = feed_place fault

-- a fault of the costs is told under its own number
abbrev pub refusal_number : Refusal → ℕ
refusal_number TooLong = 27
refusal_number OtherLayout = 26
refusal_number (Costs fault) = cost_number fault
refusal_number (Read refusal) = read_told refusal

-- what is wrong before the first demand is told at 0
abbrev pub refusal_place : Refusal → ℕ
refusal_place TooLong = 0
refusal_place OtherLayout = 0
refusal_place (Costs fault) = 0
refusal_place (Read refusal) = read_place refusal
