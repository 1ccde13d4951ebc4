use Rattle.std.proofs.Common.{◌≡◌, ℕ, ◌<◌, true}
use Rattle.four_state.specs.Vector.{same_bits}
use Rattle.state_machines.specs.Same.{bits_at}
use Rattle.state_machines.proofs.same.has_before.Given as goal

-- no value so far is the same
abbrev pub invariant-loop-earlier : goal.invariant-loop-earlier
invariant-loop-earlier l = (j : ℕ) → j < l.earlier → same_bits (bits_at l.values j) (bits_at l.values l.place) ≡ true → ⊥
