use Rattle.std.proofs.Common.{◌<◌, take}
use Rattle.std.specs.List.{All}
use Rattle.number_tables.specs.declared.slot.Slot.{Slot}
use Rattle.number_tables.proofs.ranges.row_count.Given as goal

-- the count is greater than the rows so far
abbrev pub invariant-loop-slot : goal.invariant-loop-slot
invariant-loop-slot l = All (λ (slot : Slot). slot.row < l.count) (take l.slot-index l.slots)
