use Rattle.std.proofs.Common.{◌≡◌, map, take}
use Rattle.design_model.specs.Machine.{events_of}
use Rattle.design_model.specs.View.{process_view}
use Rattle.design_wakes.proofs.edges.event_lists.Given as goal

-- the lists so far
abbrev pub invariant-loop-process : goal.invariant-loop-process
invariant-loop-process l = map (λ list. list.items) l.lists.items ≡ map (λ process. events_of (process_view process)) (take l.process-index l.processes)
