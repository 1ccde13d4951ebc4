use Rattle.std.proofs.Common.{◌≡◌}
use Rattle.code_values.proofs.Taking.{AreClosed}
use Rattle.code_values.proofs.values.CodeValues.close.Given as goal

-- the codes so far are closed
abbrev pub invariant-loop-place : goal.invariant-loop-place
invariant-loop-place l =
    (l.self-inside.given ≡ l.initial.self-inside.given) × (l.self-inside.last.items ≡ l.initial.self-inside.last.items) × AreClosed l.initial.self-inside.closed.items l.initial.self-inside.last.items l.self-inside.closed.items l.initial.self-inside.given.items l.place
