use Rattle.std.proofs.Common.{◌≡◌, ◌-◌, ◌+◌, ◌≤◌, length, take}
use Rattle.std.specs.List.{sum_by}
use Rattle.early_sets.specs.Changes.{edges_of}
use Rattle.early_sets.specs.Once.{IsOnce}
use Rattle.early_sets.specs.Turns.{member_turns}
use Rattle.early_sets.proofs.Closing.{IsClosing}
use Rattle.early_sets.proofs.closure.close.Given as goal

-- so many things were taken, in no more turns than these have
abbrev pub invariant-members : goal.invariant-members
invariant-members g l =
    (l.things.size ≡ l.fn.things.size) × (l.processes.size ≡ l.fn.processes.size) × (l.taken ≤ length l.things.items) × IsClosing l.tables (edges_of l.changes) l.rule l.fn.things.items l.things.items l.processes.items l.taken × (IsOnce l.fn.things.items → IsOnce l.things.items) × IsOnce l.processes.items × (g.T.Turns.counted l.turns ≤ g.T.Turns.counted l.fn.turns + sum_by (member_turns l.tables) (take l.taken l.things.items))

-- each turn takes one more, and there are no more than the size
abbrev pub decreases-members : goal.decreases-members
decreases-members g l = l.things.size - l.taken
