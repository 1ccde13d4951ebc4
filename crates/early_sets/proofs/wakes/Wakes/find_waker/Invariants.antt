use Rattle.std.proofs.Common.{◌≡◌, ◌+◌, ◌≤◌, drop, length}
use Rattle.early_sets.specs.WakeState.{can_wake_by, first_signal, state_of, waker_of}
use Rattle.early_sets.proofs.wakes.Wakes.find_waker.Given as goal

-- the edges so far wake nothing: the first that does is among the rest
abbrev pub invariant-loop-edge : goal.invariant-loop-edge
invariant-loop-edge g l = (first_signal (can_wake_by (state_of l.self)) (drop l.edge-index l.edge-items) ≡ waker_of (state_of l.self) l.process) × (l.edge-index ≤ length l.edge-items) × (g.T.Turns.counted l.turns ≤ g.T.Turns.counted l.fn.turns + l.edge-index)
