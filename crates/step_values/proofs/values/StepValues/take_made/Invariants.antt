use Rattle.std.proofs.Common.{◌≡◌, [], take}
use Rattle.step_values.specs.Taken.{Takes, some_row_lists}
use Rattle.step_values.proofs.values.StepValues.take_made.Given as goal

-- the rows of the processes so far are taken
abbrev pub invariant-loop-process : goal.invariant-loop-process
invariant-loop-process l = (l.overwritten.size ≡ l.fn.overwritten.size) × Takes l.codes (some_row_lists l.written (take l.process-index l.ran)) l.store [] l.overwritten.items l.fn.self l.self
