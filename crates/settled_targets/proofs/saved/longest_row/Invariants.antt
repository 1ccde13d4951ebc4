use Rattle.std.proofs.Common.{ℕ, ◌<◌, ◌≤◌, length}
use Rattle.index_sets.specs.Rows.{row_at}
use Rattle.settled_targets.proofs.saved.longest_row.Given as goal

-- the rows so far are no longer
abbrev pub invariant-loop-process : goal.invariant-loop-process
invariant-loop-process l = (p : ℕ) → p < l.process → length (row_at l.targets p) ≤ l.longest
