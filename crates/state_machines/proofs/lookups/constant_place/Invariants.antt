use Rattle.std.proofs.Common.{ℕ, ◌<◌}
use Rattle.state_machines.specs.Lookups.{IsConstantAt}
use Rattle.state_machines.proofs.lookups.constant_place.Given as goal

-- none of those so far has the name in the instance
abbrev pub invariant-loop-place : goal.invariant-loop-place
invariant-loop-place l = (k : ℕ) → k < l.place → IsConstantAt l.constants l.instance l.name k → ⊥
