use Rattle.std.proofs.Common.{◌≡◌, ◌++◌, drop, take}
use Rattle.value_store.specs.Slots.{forgotten}
use Rattle.value_store.proofs.slot.forget.Given as goal

abbrev pub invariant-loop-number : goal.invariant-loop-number
invariant-loop-number l = l.slots ≡ forgotten 0 (take l.number l.initial.slots) ++ drop l.number l.initial.slots
