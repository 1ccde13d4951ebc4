use Rattle.std.proofs.Common.{◌∙◌, map, ap}
use Rattle.std.proofs.lemmas.List.{take_all}
use Rattle.design_model.specs.View.{process_view}
use Rattle.settling.proofs.design_targets.Lists.{lists_grow}
use Rattle.step_runs.specs.Rows.{written_names}
use Rattle.step_runs.proofs.rows.written_lists.Goals as goal

pub loop-process-preserved : goal.loop-process-preserved
loop-process-preserved c =
    rw c.in_ok-push.ensures.items (lists_grow (λ list. list.items) (λ process. written_names (process_view process)) c.loop-process.lists.items c.args.processes.now c.loop-process.process-index c.in_ok-list.list c.process-item.result c.loop-process-test.true c.process-item.is c.in_ok-list.ensures c.loop-process.invariant)

pub returns : goal.returns
returns c = c.loop-process.invariant ∙ ap (map (λ process. written_names (process_view process))) (take_all c.loop-process.process-index c.args.processes.now c.loop-process-test.false)
