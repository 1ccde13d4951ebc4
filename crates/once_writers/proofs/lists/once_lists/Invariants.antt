use Rattle.std.proofs.Common.{◌≡◌, length, map, take}
use Rattle.design_model.specs.View.{process_view}
use Rattle.once_writers.specs.Lists.{once_written}
use Rattle.target_counts.specs.Counts.{IsClear}
use Rattle.once_writers.proofs.lists.once_lists.Given as goal

-- the lists so far, and nothing is counted
abbrev pub invariant-loop-process : goal.invariant-loop-process
invariant-loop-process l =
    record {
      lists : map (λ list. list.items) l.lists.items ≡ map (λ process. once_written l.wanted (process_view process)) (take l.process l.processes);
      clear : IsClear l.counts;
      size : length l.counts.counts.items ≡ length l.wanted;
    }
