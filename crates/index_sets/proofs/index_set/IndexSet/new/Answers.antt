use Rattle.index_sets.proofs.Places.{identity_places}
use Rattle.index_sets.proofs.index_set.IndexSet.new.Goals as goal

pub invariant_of-result : goal.invariant_of-result
invariant_of-result c = identity_places c.in_ok-order.order.items c.in_ok-places.places.items c.args.size c.in_ok-order.ensures c.in_ok-places.ensures
