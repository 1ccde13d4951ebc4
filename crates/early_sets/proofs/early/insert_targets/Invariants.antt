use Rattle.std.proofs.Common.{◌≡◌, ◌+◌, ◌≤◌, take}
use Rattle.std.specs.List.{sum_by}
use Rattle.early_sets.specs.Adds.{Adds}
use Rattle.early_sets.specs.Early.{IsTriggerTarget}
use Rattle.early_sets.specs.Turns.{process_turns}
use Rattle.early_sets.proofs.early.insert_targets.Given as goal

-- the blocking targets of the processes so far are put in, in no more turns than these have
abbrev pub invariant-loop-place : goal.invariant-loop-place
invariant-loop-place g l = (l.early.size ≡ l.fn.early.size) × Adds (IsTriggerTarget l.tables l.processes.items l.place l.block l.trigger) l.fn.early.items l.early.items × (g.T.Turns.counted l.turns ≤ g.T.Turns.counted l.fn.turns + sum_by (process_turns l.tables) (take l.place l.processes.items))
