use Rattle.std.proofs.Common.{◌≡◌, map, take}
use Rattle.design_model.specs.View.{process_view}
use Rattle.design_wakes.specs.process_names.Names.{level_names}
use Rattle.process_order.specs.Names.{lists_of}
use Rattle.process_order.proofs.names.watch_lists.Given as goal

-- the lists so far
abbrev pub invariant-loop-process : goal.invariant-loop-process
invariant-loop-process l = lists_of l.lists.items ≡ map (λ process. level_names (process_view process)) (take l.process-index l.processes)
