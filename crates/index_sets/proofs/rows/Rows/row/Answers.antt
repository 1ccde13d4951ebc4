use Rattle.std.proofs.Common.{arith}
use Rattle.index_sets.proofs.RowsLemmas.{row_inside, row_is, row_within}
use Rattle.index_sets.proofs.rows.Rows.row.Goals as goal

pub index-from-requires : goal.index-from-requires
index-from-requires g c =
    let r = c.self.inside in
    omega (arith, r.starts.ok.0, row_inside r.items.items r.starts.items c.args.self.now c.self.view_is c.self.invariant c.args.row c.requires)

pub overflow_add-row : goal.overflow_add-row
overflow_add-row g c =
    let r = c.self.inside in
    omega (arith, r.starts.ok.0, r.starts.ok.1, r.starts.small, row_inside r.items.items r.starts.items c.args.self.now c.self.view_is c.self.invariant c.args.row c.requires)

pub index-to-requires : goal.index-to-requires
index-to-requires g c =
    let r = c.self.inside in
    omega (arith, r.starts.ok.0, row_inside r.items.items r.starts.items c.args.self.now c.self.view_is c.self.invariant c.args.row c.requires)

pub part-requires : goal.part-requires
part-requires g c =
    let r = c.self.inside in
    let within = row_within r.items.items r.starts.items c.args.self.now c.self.view_is c.self.invariant c.args.row c.index-from.result.now c.index-to.result.now c.requires c.index-from.ensures c.index-to.ensures in
    record { rising = within.0; within = rw c.as_slice.ensures.value within.1 }

pub returns : goal.returns
returns g c =
    let r = c.self.inside in
    rw (c.part.ensures, c.as_slice.ensures.value) (row_is r.items.items r.starts.items c.args.self.now c.self.view_is c.self.invariant c.args.row c.index-from.result.now c.index-to.result.now c.requires c.index-from.ensures c.index-to.ensures)
