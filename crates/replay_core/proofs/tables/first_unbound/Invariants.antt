use Rattle.std.proofs.Common.{◌≡◌, ◌<◌, ℕ, true}
use Rattle.replay_core.specs.Fits.{is_bound_if_input}
use Rattle.replay_core.proofs.tables.first_unbound.Given as goal

abbrev pub invariant-loop-place : goal.invariant-loop-place
invariant-loop-place l = (k : ℕ) → k < l.place → is_bound_if_input l.signals l.bound k ≡ true
