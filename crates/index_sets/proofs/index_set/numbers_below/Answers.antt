use Rattle.index_sets.proofs.Places.{identity_more}
use Rattle.index_sets.proofs.index_set.numbers_below.Goals as goal

pub loop-number-preserved : goal.loop-number-preserved
loop-number-preserved c = rw c.in_ok-push.ensures.items (identity_more c.loop-number.numbers.items c.loop-number.number c.loop-number.invariant)
