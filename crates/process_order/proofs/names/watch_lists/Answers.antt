use Rattle.std.proofs.Common.{◌∙◌, ◌++◌, map, ap}
use Rattle.std.proofs.lemmas.List.{take_all}
use Rattle.design_model.specs.View.{process_view}
use Rattle.design_wakes.specs.process_names.Names.{level_names}
use Rattle.process_order.proofs.RowLemmas.{lists_grow}
use Rattle.process_order.proofs.names.watch_lists.Goals as goal

pub loop-process-preserved : goal.loop-process-preserved
loop-process-preserved c =
    rw c.in_ok-push.ensures.items (lists_grow (λ list. list.items) (λ process. level_names (process_view process)) c.loop-process.lists.items c.args.processes.now c.loop-process.process-index c.push_level.new.found c.process-item.result c.loop-process-test.true c.process-item.is (c.in_ok-push_level.ensures ∙ ap (λ zs. zs ++ level_names (process_view c.process-item.result)) c.new-found.ensures.items) c.loop-process.invariant)

pub returns : goal.returns
returns c = c.loop-process.invariant ∙ ap (map (λ process. level_names (process_view process))) (take_all c.loop-process.process-index c.args.processes.now c.loop-process-test.false)
