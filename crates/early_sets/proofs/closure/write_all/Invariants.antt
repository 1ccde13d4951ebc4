use Rattle.std.proofs.Common.{◌≡◌, ◌+◌, ◌≤◌, drop}
use Rattle.std.specs.List.{sum_by}
use Rattle.early_sets.specs.Adds.{Adds}
use Rattle.early_sets.specs.Reached.{IsTargetFrom}
use Rattle.early_sets.specs.Turns.{process_turns}
use Rattle.early_sets.proofs.closure.write_all.Given as goal

-- what the processes so far may write is put in, and the turns are those of the rest
abbrev pub invariant-loop-place : goal.invariant-loop-place
invariant-loop-place g l = (l.things.size ≡ l.fn.things.size) × Adds (IsTargetFrom l.tables l.rule l.processes.items l.from l.place) l.fn.things.items l.things.items × (g.T.Turns.counted l.turns + sum_by (process_turns l.tables) (drop l.place l.processes.items) ≤ g.T.Turns.counted l.fn.turns + sum_by (process_turns l.tables) (drop l.from l.processes.items))
