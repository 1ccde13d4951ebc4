use Rattle.std.proofs.Common.{◌<◌, length, arith}
use Rattle.value_store.proofs.Slots.{rewound_more}
use Rattle.value_store.proofs.slot.rewind.Goals as goal

pub loop-slot-preserved : goal.loop-slot-preserved
loop-slot-preserved c =
    let l : c.loop-slot.slot-index < length c.args.slots.now = omega arith in
    rewound_more c.args.slots.now c.loop-slot.slots c.loop-slot.slot-index c.slot-item.result l c.loop-slot.invariant
