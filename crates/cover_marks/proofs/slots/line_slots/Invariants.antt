use Rattle.std.proofs.Common.{◌≡◌, take}
use Rattle.cover_marks.specs.Slots.{line_slots}
use Rattle.cover_marks.proofs.slots.line_slots.Given as goal

-- the slots of the points so far
abbrev pub invariant-loop-point : goal.invariant-loop-point
invariant-loop-point l = l.slots.items ≡ line_slots (take l.point-index l.points)
