use Rattle.std.proofs.Common.{take}
use Rattle.step_values.specs.Loose.{some_row_has}
use Rattle.step_values.specs.Loosens.{Loosens}
use Rattle.step_values.proofs.values.StepValues.loosen_all.Given as goal

-- the rows of the processes so far are made unknown
abbrev pub invariant-loop-process : goal.invariant-loop-process
invariant-loop-process l = Loosens l.codes (some_row_has l.targets (take l.process-index l.running)) l.fn.store l.store l.fn.self l.self
