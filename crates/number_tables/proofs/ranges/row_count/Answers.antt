use Rattle.std.proofs.Common.{arith}
use Rattle.std.proofs.lemmas.List.{take_all}
use Rattle.number_tables.proofs.Places.{counted}
use Rattle.number_tables.proofs.ranges.row_count.Goals as goal

pub loop-slot-preserved : goal.loop-slot-preserved
loop-slot-preserved c = counted c.args.slots.now c.loop-slot.slot-index c.loop-slot.count c.max-count.result c.loop-slot-test.true (omega (arith, c.max-count.ensures)) (omega (arith, c.max-count.ensures)) c.loop-slot.invariant

pub returns : goal.returns
returns c = rw (take_all c.loop-slot.slot-index c.args.slots.now c.loop-slot-test.false) at c.loop-slot.invariant
