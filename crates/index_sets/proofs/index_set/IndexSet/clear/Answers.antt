use Rattle.std.proofs.Common.{arith}
use Rattle.index_sets.proofs.Places.{fewer_places}
use Rattle.index_sets.proofs.index_set.IndexSet.clear.Goals as goal

pub invariant_of-self : goal.invariant_of-self
invariant_of-self c = fewer_places c.self.inside.order.items c.self.inside.places.items c.self.inside.used 0 (omega arith) c.self.invariant
