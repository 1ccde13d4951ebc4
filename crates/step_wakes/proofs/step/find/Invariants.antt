use Rattle.std.proofs.Common.{◌+◌, ◌≤◌, length, take}
use Rattle.early_sets.specs.WakeState.{state_of}
use Rattle.step_wakes.proofs.Noting.{IsNoted}
use Rattle.step_wakes.proofs.step.find.Given as goal

-- the changes so far are noted, each in a turn
abbrev pub invariant-loop-change : goal.invariant-loop-change
invariant-loop-change g l =
    IsNoted (state_of l.fn.wakes) (take l.change-index l.changes) (state_of l.wakes) × (l.change-index ≤ length l.changes) × (g.T.Turns.counted l.turns ≤ g.T.Turns.counted l.fn.turns + length (state_of l.fn.wakes).untold + l.change-index)
