use Rattle.std.proofs.Common.{◌≡◌, ℕ, ◌<◌, length, map}
use Rattle.design_model.specs.View.{design_view}
use Rattle.index_sets.specs.Rows.{row_at}
use Rattle.process_targets.specs.Rows.{AreTargets}
use Rattle.process_targets.proofs.rows.target_rows.Given as goal

-- each process so far has its row
abbrev pub invariant-loop-process : goal.invariant-loop-process
invariant-loop-process l =
    record {
      size : length l.places.items ≡ length l.design.signals;
      count : length l.lists.items ≡ l.process-index;
      each : (k : ℕ) → k < l.process-index → AreTargets (design_view l.design) k (row_at (map (λ list. list.items) l.lists.items) k);
    }
