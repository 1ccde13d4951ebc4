use Rattle.std.proofs.Common.{◌≡◌, ◌++◌, drop, map, take}
use Rattle.value_store.specs.Slots.{rewound}
use Rattle.value_store.proofs.slot.rewind.Given as goal

abbrev pub invariant-loop-slot : goal.invariant-loop-slot
invariant-loop-slot l = l.slots ≡ map rewound (take l.slot-index l.initial.slots) ++ drop l.slot-index l.initial.slots
