use Rattle.std.proofs.Common.{take}
use Rattle.std.specs.List.{All}
use Rattle.number_tables.specs.Tables.{HasRoom}
use Rattle.number_tables.proofs.ranges.make_room.Given as goal

-- there is room for the slots so far
abbrev pub invariant-loop-slot : goal.invariant-loop-slot
invariant-loop-slot l = All (HasRoom l.ranges) (take l.slot-index l.slots)
