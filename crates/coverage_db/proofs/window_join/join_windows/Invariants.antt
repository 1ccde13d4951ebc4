use Rattle.std.proofs.Common.{◌≡◌, ◌+◌, ◌++◌, length}
use Rattle.coverage_db.specs.Table.{Rises}
use Rattle.coverage_db.specs.Windows.{joined_windows, window_cmp}
use Rattle.coverage_db.proofs.window_join.join_windows.Given as goal

-- the windows so far, and the join of what is left, are the join of both
abbrev pub invariant-loop-window : goal.invariant-loop-window
invariant-loop-window l = record {
  joined : l.joined ++ joined_windows l.left l.right ≡ joined_windows l.first l.second;
  left_rises : Rises window_cmp l.left;
  right_rises : Rises window_cmp l.right;
}

abbrev pub decreases-loop-window : goal.decreases-loop-window
decreases-loop-window l = length l.left + length l.right
