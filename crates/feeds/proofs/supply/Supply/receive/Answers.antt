use Rattle.std.proofs.Common.{◌≡◌, ◌<◌, ◌+◌, true, [], ◌∷◌, drop, sym, ap, ◌∙◌, arith}
use Rattle.std.specs.VecDeque.{deque_items, deque_len}
use Rattle.std.proofs.lemmas.Bool.{false≢true}
use Rattle.std.proofs.lemmas.List.{nil_from_length}
use Rattle.feeds.specs.Receipts.{supplies, netted}
use Rattle.feeds.proofs.Supplies.{front_first, nothing_left, net_left, not_yet, now_comes, net_on}
use Rattle.feeds.proofs.supply.Supply.receive.Goals as goal
use Rattle.feeds.proofs.supply.Supply.receive.Goals.{In_default, In-Some}

none_left : (c : In_default) → deque_items c.args.self.now.receipts ≡ []
none_left c =
    let q = c.args.self.now.receipts in
    let none : 0 < deque_len q → ⊥ = λ l. false≢true (c.in_default.ensures.variant.1 l) in
    nil_from_length _ (omega (arith, q.ok.0, none))

pub returns-in_default-clause-told : goal.returns-in_default-clause-told
returns-in_default-clause-told c = sym (nothing_left _ _ (none_left c))

pub returns-in_default-clause-later : goal.returns-in_default-clause-later
returns-in_default-clause-later c = λ stock ds. net_left _ stock _ ds (none_left c)

-- the receipt that was seen stands at the front
front : (c : In-Some) → let q = deque_items c.args.self.now.receipts in q ≡ c.in-Some.field-0.now ∷ drop 1 q
front c =
    let q = c.args.self.now.receipts in
    let one : 0 < deque_len q = c.in-Some.ensures.variant.0 (λ i. true) in
    front_first _ _ (omega (arith, q.ok.0, one)) c.in-Some.ensures.lookup

pub returns-then-not-comes_now-clause-told : goal.returns-then-not-comes_now-clause-told
returns-then-not-comes_now-clause-told c =
    sym (not_yet _ _ _ (front (goal.at.returns-then-not-comes_now-clause-told c).In-Some) c.args.self.now.coming (omega (arith, c.if-not-comes_now.true, c.from.ensures, c.date.ensures)))

pub returns-clause-told : goal.returns-clause-told
returns-clause-told c =
    sym (now_comes _ _ _ (front (goal.at.returns-clause-told c).In-Some) c.args.self.now.coming (omega (arith, c.if-not-comes_now.false, c.from.ensures, c.date.ensures)))

pub returns-clause-later : goal.returns-clause-later
returns-clause-later c = λ stock ds.
    ap (λ xs. netted (supplies xs) (c.args.self.now.period + 1) stock ds) c.pop_front.ensures.rest
    ∙ net_on _ _ _ (front (goal.at.returns-clause-later c).In-Some) c.args.self.now.coming (omega (arith, c.if-not-comes_now.false, c.from.ensures, c.date.ensures)) stock ds
