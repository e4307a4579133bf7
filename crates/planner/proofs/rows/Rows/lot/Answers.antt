use Rattle.std.proofs.Common.{◌≡◌, ◌+◌, ◌-◌, ◌*◌, ◌<◌, ◌≤◌, length, ap, arith}
use Rattle.theory.specs.Recursion.{over, lot_cost, lot}
use Rattle.planner.specs.Describing.{Window}
use Rattle.planner.specs.Windows.{window}
use Rattle.planner.proofs.Windows.{window_long}
use Rattle.planner.proofs.Soundness.{least_fits}
use Rattle.planner.proofs.Backward.{forward, some_amount, bounded_amount, some_cost, span_amount, span_cost}
use Rattle.planner.proofs.rows.Rows.lot.Goals as goal
use Rattle.planner.proofs.rows.Rows.lot.Goals.{After-at-end}

pub at-before-requires-clause-through : goal.at-before-requires-clause-through
at-before-requires-clause-through c =
    let r = c.args.self.now in
    omega (arith, forward (window r) r.sound c.args.span c.requires.spans, c.requires.spans.read)

pub at-end-requires-clause-from : goal.at-end-requires-clause-from
at-end-requires-clause-from c =
    let r = c.args.self.now in
    omega (arith, forward (window r) r.sound c.args.span c.requires.spans, c.requires.spans.later)

-- what the two rows tell, in numbers
record Ends (c : After-at-end) : Type 0 where
  begun : c.at-before.result.demanded < c.at-end.result.demanded
  bounded : c.at-end.result.demanded ≤ c.at-before.result.demanded + 256000000
  spent : c.at-before.result.least ≤ c.at-end.result.least
  affordable : c.at-end.result.least ≤ 10000 * 1001000000000

ends : (c : After-at-end) → Ends c
ends c =
    let r = c.args.self.now in
    let w : Window = window r in
    let s = c.args.span in
    let sp = c.requires.spans in
    let narrow : length w.rows ≤ 256 = omega (arith, window_long r, r.narrow) in
    let from = ap (λ x. x.demanded) c.at-before.ensures in
    let to = ap (λ x. x.demanded) c.at-end.ensures in
    let paid = ap (λ x. x.least) c.at-before.ensures in
    let cost = ap (λ x. x.least) c.at-end.ensures in
    record {
      begun = omega (arith, some_amount w r.sound s sp);
      bounded = omega (arith, bounded_amount w r.sound s sp narrow);
      spent = omega (arith, some_cost w r.sound s sp);
      affordable = omega (
        arith,
        least_fits w r.sound (s.through - w.base) (omega (arith, sp.read)),
        forward w r.sound s sp,
        sp.later,
        sp.read,
        r.few,
        window_long r,
      );
    }

pub overflow_sub-result : goal.overflow_sub-result
overflow_sub-result c = omega (arith, (ends (goal.at.overflow_sub-result c).After-at-end).begun)

pub overflow_cast-result : goal.overflow_cast-result
overflow_cast-result c = omega (arith, (ends (goal.at.overflow_cast-result c).After-at-end).bounded)

pub overflow_sub-result-2 : goal.overflow_sub-result-2
overflow_sub-result-2 c = (ends (goal.at.overflow_sub-result-2 c).After-at-end).spent

pub invariant_of-result : goal.invariant_of-result
invariant_of-result c =
    let r = c.args.self.now in
    let w : Window = window r in
    let e = ends (goal.at.invariant_of-result c).After-at-end in
    let sp = c.requires.spans in
    let f = forward w r.sound c.args.span sp in
    let read = c.read.ensures in record { from_first = omega (arith, sp.later); forward = f; read = omega (arith, sp.read); few = omega (arith, r.few, window_long r); short = omega (arith, sp.later, sp.read, r.narrow, window_long r); some = omega (arith, e.begun); bounded = omega (arith, e.bounded); affordable = omega (arith, e.affordable); settled = λ frozen. omega (arith, c.requires.settled frozen) }

pub returns-clause-means : goal.returns-clause-means
unfolding lot
returns-clause-means c = λ d h.
    let r = c.args.self.now in
    let w : Window = window r in
    let s = c.args.span in
    let amount : c.at-end.result.demanded - c.at-before.result.demanded ≡ over d.demand_of s.from s.through =
    omega (arith, span_amount d w h s c.requires.spans, ap (λ x. x.demanded) c.at-before.ensures, ap (λ x. x.demanded) c.at-end.ensures) in
    let cost : c.at-end.result.least - c.at-before.result.least ≡ lot_cost d s.from s.through =
    omega (arith, span_cost d w h s c.requires.spans, ap (λ x. x.least) c.at-before.ensures, ap (λ x. x.least) c.at-end.ensures) in
    λ i. record { kind = c.args.kind; from = s.from; through = s.through; amount = amount i; cost = cost i; evidence = c.read.ensures i }
