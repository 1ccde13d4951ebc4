use Rattle.std.proofs.Common.{◌≡◌, map, take}
use Rattle.design_model.specs.Design.{body}
use Rattle.design_model.specs.View.{process_view}
use Rattle.design_targets.specs.Written.{written}
use Rattle.design_targets.proofs.rows.target_lists.Given as goal

-- the lists so far
abbrev pub invariant-loop-process : goal.invariant-loop-process
invariant-loop-process l = map (λ list. list.items) l.lists.items ≡ map (λ process. written l.blocking (body (process_view process))) (take l.process-index l.processes)
