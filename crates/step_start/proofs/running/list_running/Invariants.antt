use Rattle.std.proofs.Common.{◌≡◌, length, take}
use Rattle.step_start.specs.Settles.{ArePlaced}
use Rattle.step_start.proofs.running.list_running.Given as goal

-- of the processes so far those that have a place are listed
abbrev pub invariant-loop-process : goal.invariant-loop-process
invariant-loop-process l = (l.running.size ≡ length l.order) × ArePlaced l.order (take l.process-index l.woken) l.running.items
