use Rattle.std.proofs.Common.{◌≡◌}
use Rattle.code_values.proofs.Changing.{AddsSoFar}
use Rattle.code_values.proofs.values.CodeValues.add_changed.Given as goal

-- the signals of the codes so far are put in
abbrev pub invariant-loop-place : goal.invariant-loop-place
invariant-loop-place l = (l.changed.size ≡ l.fn.changed.size) × AddsSoFar l.self l.signals l.self-inside.given.items l.place l.fn.changed.items l.changed.items
