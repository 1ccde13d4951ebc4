use Rattle.std.proofs.Common.{ℕ, ◌<◌}
use Rattle.state_machines.specs.Lookups.{IsSignalAt}
use Rattle.state_machines.proofs.lookups.signal_place.Given as goal

-- none of those so far has the name in the instance
abbrev pub invariant-loop-place : goal.invariant-loop-place
invariant-loop-place l = (k : ℕ) → k < l.place → IsSignalAt l.signals l.instance l.name k → ⊥
