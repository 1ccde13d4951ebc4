use Rattle.std.proofs.Common.{arith}
use Rattle.index_sets.proofs.Places.{item_below, item_inside, item_is}
use Rattle.index_sets.proofs.index_set.IndexSet.get.Goals as goal

pub index-requires : goal.index-requires
index-requires c =
    let s = c.self.inside in
    omega (arith, s.order.ok.0, item_inside s.order.items s.places.items s.used c.args.self.now c.self.view_is c.self.invariant c.args.place c.requires)

pub returns-clause-value : goal.returns-clause-value
returns-clause-value c =
    let s = c.self.inside in
    item_is s.order.items s.places.items s.used c.args.self.now c.self.view_is c.self.invariant c.args.place c.index.result.now c.requires c.index.ensures

pub returns-clause-below : goal.returns-clause-below
returns-clause-below c =
    let s = c.self.inside in
    item_below s.order.items s.places.items s.used c.args.self.now c.self.view_is c.self.invariant c.args.place c.index.result.now c.requires c.index.ensures
