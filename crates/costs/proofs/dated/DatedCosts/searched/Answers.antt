use Rattle.std.proofs.Common.{rules, vec_items, arith}
use Rattle.std.proofs.lemmas.List.{length-map}
use Rattle.costs.specs.InForce.{first_dated}
use Rattle.costs.specs.Told.{none_of}
use Rattle.costs.proofs.Searching.{line_of, search_finds, known, Known}
use Rattle.costs.proofs.dated.DatedCosts.searched.Goals as goal

pub slice_bounds-partition_point-count : goal.slice_bounds-partition_point-count
slice_bounds-partition_point-count c =
    omega (arith, (first_dated _ (none_of _ c.self.inside.right)).0, length-map (vec_items c.self.inside.lines) line_of, c.deref.ensures.len)

pub index-requires : goal.index-requires
index-requires c =
    let f = search_finds c.deref.result.now c.args.p _ (rw c.deref.ensures.value (none_of _ c.self.inside.right)) c.requires c.partition_point-later.ensures.bound c.partition_point-later.ensures.partitioned (λ a r q k. search rules) in
    omega (arith, f.within, length-map c.deref.result.now line_of, c.deref.ensures.len)

stands : (c : goal.After-index) → Known c.args.self.now.lines c.args.p c.index.result.now
stands c =
    let e = none_of _ c.self.inside.right in
    let f = search_finds c.deref.result.now c.args.p _ (rw c.deref.ensures.value e) c.requires c.partition_point-later.ensures.bound c.partition_point-later.ensures.partitioned (λ a r q k. search rules) in
    rw (← c.self.view_is) (known (vec_items c.self.inside.lines) c.args.p _ c.index.result.now e c.self.invariant (rw c.deref.ensures.value at f) c.index.ensures)

pub returns-clause-begun : goal.returns-clause-begun
returns-clause-begun c = (stands c).begun

pub returns-clause-line : goal.returns-clause-line
returns-clause-line c = (stands c).line

pub returns-clause-held : goal.returns-clause-held
returns-clause-held c = (stands c).held

pub slice_bounds-partition_point-start : goal.slice_bounds-partition_point-start
slice_bounds-partition_point-start c =
    omega (arith, (first_dated _ (none_of _ c.self.inside.right)).0, length-map (vec_items c.self.inside.lines) line_of, c.deref.ensures.len)
