use Rattle.std.proofs.Common.{take}
use Rattle.process_targets.specs.Targets.{row_has}
use Rattle.step_values.specs.Loosens.{Loosens}
use Rattle.step_values.proofs.values.StepValues.loosen.Given as goal

-- the bits so far are made unknown
abbrev pub invariant-loop-bits : goal.invariant-loop-bits
invariant-loop-bits l = Loosens l.codes (row_has (take l.bits-index l.targets)) l.fn.store l.store l.fn.self l.self
