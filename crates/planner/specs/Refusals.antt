-- The number of each refusal of a planner's call.
use Rattle.std.specs.Prelude.{ℕ}
use Rattle.planner.specs.declared.refusals.ReadRefusal.{ReadRefusal}
use Rattle.planner.specs.declared.refusals.ReadRefusal.TheVariants.{LotWaits, WindowFull, LimitReached, FeedEnded, Feed}
use Rattle.planner.specs.declared.refusals.TakeRefusal.{TakeRefusal}
use Rattle.planner.specs.declared.refusals.TakeRefusal.TheVariants.{NoneProved}
use Rattle.planner.specs.declared.refusals.RestRefusal.{RestRefusal}
use Rattle.planner.specs.declared.refusals.RestRefusal.TheVariants.{NoneLeft}

-- the number under which a read is refused; a fault of the feed keeps its own number inside
abbrev pub read_number : ReadRefusal → ℕ
read_number LotWaits = 18
read_number WindowFull = 19
read_number LimitReached = 20
read_number FeedEnded = 21
read_number (Feed f) = 22

-- the number under which a take is refused
abbrev pub take_number : TakeRefusal → ℕ
take_number NoneProved = 23

-- the number under which a rest is refused
abbrev pub rest_number : RestRefusal → ℕ
rest_number NoneLeft = 24
