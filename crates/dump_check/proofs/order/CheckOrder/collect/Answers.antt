use Rattle.std.proofs.Common.{◌-◌, get_or}
use Rattle.dump_check.proofs.order.CheckOrder.collect.Goals as goal

pub put_before-requires : goal.put_before-requires
put_before-requires c =
    λ s h. rw c.loop-place.invariant.0 (c.requires.below (get_or c.args.runs.now (c.loop-place.place - 1) 0) s (rw (← c.row.ensures) h))
