use Rattle.std.proofs.Common.{◌≡◌, ℕ, ◌<◌, length}
use Rattle.index_sets.specs.Rows.{row_at}
use Rattle.step_changes.specs.process_order.Names.{lists_of}
use Rattle.step_check.specs.Checks.{checked}
use Rattle.step_check.proofs.rows.check_rows.Given as goal

-- the lists of the processes so far
abbrev pub invariant-loop-process : goal.invariant-loop-process
invariant-loop-process l = (length l.lists.items ≡ l.process) × ((p : ℕ) → p < l.process → row_at (lists_of l.lists.items) p ≡ checked l.codes (row_at l.targets p))
