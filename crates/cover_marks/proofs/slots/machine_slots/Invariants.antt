use Rattle.std.proofs.Common.{◌≡◌, take}
use Rattle.cover_marks.specs.Slots.{machine_slots}
use Rattle.cover_marks.proofs.slots.machine_slots.Given as goal

abbrev pub invariant-loop-point : goal.invariant-loop-point
invariant-loop-point l = l.slots.items ≡ machine_slots l.counts (take l.point-index l.points)
