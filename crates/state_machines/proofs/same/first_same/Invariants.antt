use Rattle.std.proofs.Common.{ℕ, ◌<◌}
use Rattle.state_machines.specs.Same.{HasBefore}
use Rattle.state_machines.proofs.same.first_same.Given as goal

-- no value so far is the same as an earlier one
abbrev pub invariant-loop-place : goal.invariant-loop-place
invariant-loop-place l = (k : ℕ) → k < l.place → HasBefore l.values k → ⊥
