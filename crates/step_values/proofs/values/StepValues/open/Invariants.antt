use Rattle.step_values.proofs.Aside.{SoFar}
use Rattle.step_values.proofs.values.StepValues.open.Given as goal

-- the things so far are set aside
abbrev pub invariant-loop-thing : goal.invariant-loop-thing
invariant-loop-thing l = SoFar l.store l.fn.self l.moves l.thing-index l.self
