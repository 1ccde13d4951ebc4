use Rattle.std.proofs.Common.{◌≡◌, ◌+◌, ◌≤◌, take}
use Rattle.std.specs.List.{Contains}
use Rattle.early_sets.specs.Adds.{Adds}
use Rattle.early_sets.proofs.closure.insert_members.Given as goal

-- the members so far are put in, each in a turn
abbrev pub invariant-loop-place : goal.invariant-loop-place
invariant-loop-place g l = (l.into.size ≡ l.fn.into.size) × Adds (Contains (take l.place l.from.items)) l.fn.into.items l.into.items × (g.T.Turns.counted l.turns ≤ g.T.Turns.counted l.fn.turns + l.place)
