use Rattle.step_values.proofs.Aside.{Wide}
use Rattle.step_values.proofs.room.unknown_values.Given as goal

-- there are vectors of the signals so far
abbrev pub invariant-loop-place : goal.invariant-loop-place
invariant-loop-place l = Wide l.place l.signals l.values.items
