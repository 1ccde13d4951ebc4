use Rattle.std.proofs.Common.{◌≡◌, take}
use Rattle.cover_marks.specs.Slots.{state_counts}
use Rattle.cover_marks.proofs.slots.state_counts.Given as goal

abbrev pub invariant-loop-machine : goal.invariant-loop-machine
invariant-loop-machine l = l.counts.items ≡ state_counts (take l.machine-index l.machines)
