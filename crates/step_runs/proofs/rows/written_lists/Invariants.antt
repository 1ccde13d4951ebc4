use Rattle.std.proofs.Common.{◌≡◌, map, take}
use Rattle.design_model.specs.View.{process_view}
use Rattle.step_runs.specs.Rows.{written_names}
use Rattle.step_runs.proofs.rows.written_lists.Given as goal

-- the lists so far
abbrev pub invariant-loop-process : goal.invariant-loop-process
invariant-loop-process l = map (λ list. list.items) l.lists.items ≡ map (λ process. written_names (process_view process)) (take l.process-index l.processes)
