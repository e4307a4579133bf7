use Rattle.std.proofs.Common.{vec_items, length, ◌<◌}
use Rattle.costs.specs.Told.{none_of}
use Rattle.costs.proofs.Searching.{alone, known, Known}
use Rattle.costs.proofs.dated.DatedCosts.in_force.Goals as goal

stands : (c : goal.After-only-item) → Known c.args.self.now.lines c.args.p c.only-item.result
stands c =
    let e = none_of _ c.self.inside.right in
    let short : length (vec_items c.self.inside.lines) < 2 = rw c.deref.ensures.value at c.in-len1.len_below in
    rw (← c.self.view_is) (known (vec_items c.self.inside.lines) c.args.p 0 c.only-item.result e c.self.invariant (alone _ _ e c.requires short) (rw c.deref.ensures.value at c.only-item.is))

pub returns-in-len1-clause-begun : goal.returns-in-len1-clause-begun
returns-in-len1-clause-begun c = (stands c).begun

pub returns-in-len1-clause-line : goal.returns-in-len1-clause-line
returns-in-len1-clause-line c = (stands c).line

pub returns-in-len1-clause-held : goal.returns-in-len1-clause-held
returns-in-len1-clause-held c = (stands c).held
