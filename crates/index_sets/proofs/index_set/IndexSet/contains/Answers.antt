use Rattle.index_sets.proofs.Places.{member_test}
use Rattle.index_sets.proofs.index_set.IndexSet.contains.Goals as goal

pub returns : goal.returns
returns c =
    let s = c.self.inside in
    member_test s.order.items s.places.items s.used c.args.self.now c.self.view_is c.self.invariant c.args.number c.index.result.now c.requires c.index.ensures
