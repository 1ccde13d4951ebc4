use Rattle.std.proofs.Common.{◌≡◌, ◌==◌, ◌&&◌, ◌+◌, ◌≤◌, not, drop, length}
use Rattle.std.specs.List.{list_all}
use Rattle.early_sets.specs.WakeState.{can_wake_by, state_of, wakes_only_by}
use Rattle.early_sets.proofs.wakes.Wakes.wakes_only_by.Given as goal

-- the edges so far pass: all do if the rest does
abbrev pub invariant-loop-edge : goal.invariant-loop-edge
invariant-loop-edge g l = (list_all (λ e. not (not (e.1 == l.signal) && can_wake_by (state_of l.self) e)) (drop l.edge-index l.edge-items) ≡ wakes_only_by (state_of l.self) l.process l.signal) × (l.edge-index ≤ length l.edge-items) × (g.T.Turns.counted l.turns ≤ g.T.Turns.counted l.fn.turns + l.edge-index)
