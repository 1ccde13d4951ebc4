use Rattle.std.proofs.Common.{◌≡◌, ◌+◌, ◌*◌, ◌≤◌, length, take}
use Rattle.std.specs.List.{sum_by}
use Rattle.early_sets.specs.Turns.{check_turns}
use Rattle.early_sets.specs.WakeState.{state_of}
use Rattle.early_sets.proofs.NextRound.{AreReady}
use Rattle.early_sets.proofs.wakes.Wakes.find_ready.Given as goal

-- of the members so far those that become single are found, in no more turns than these have
abbrev pub invariant-loop-place : goal.invariant-loop-place
invariant-loop-place g l =
    (state_of l.self ≡ state_of l.fn.self)
    × AreReady (state_of l.fn.self) (take l.place (state_of l.fn.self).moves) l.self.ready.items
    × (g.T.Turns.counted l.turns + 2 * length l.self.ready.items ≤ g.T.Turns.counted l.fn.turns + sum_by (check_turns (state_of l.fn.self)) (take l.place (state_of l.fn.self).moves))
