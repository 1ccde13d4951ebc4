use Rattle.std.proofs.Common.{◌≡◌, map, take}
use Rattle.design_model.specs.View.{process_view}
use Rattle.design_wakes.specs.Tables.{edge_names, machine_edge}
use Rattle.design_wakes.proofs.edges.edge_lists.Given as goal

-- the lists so far
abbrev pub invariant-loop-process : goal.invariant-loop-process
invariant-loop-process l = map (λ list. list.items) l.lists.items ≡ map (λ process. edge_names (machine_edge l.edge) (process_view process)) (take l.process-index l.processes)
