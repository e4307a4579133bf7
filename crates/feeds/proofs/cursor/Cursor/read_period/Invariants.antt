use Rattle.std.proofs.Common.{◌≡◌, ◌-◌, ◌≤◌, length}
use Rattle.feeds.specs.Orders.{period_at}
use Rattle.feeds.proofs.cursor.Cursor.read_period.Given as goal

-- the period that was begun is the one that goes on here
abbrev pub invariant-loop-sum : goal.invariant-loop-sum
invariant-loop-sum l =
    (l.demand ≤ 1000000) × (period_at l.self.text.now l.self.handed l.self.place 0 ≡ period_at l.at.text.now l.at.handed l.at.place l.demand)

abbrev pub decreases-loop-sum : goal.decreases-loop-sum
decreases-loop-sum l = length l.at.text.now - l.at.place
