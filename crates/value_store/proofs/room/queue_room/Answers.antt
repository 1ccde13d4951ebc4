use Rattle.std.proofs.Common.{◌≤◌, length, map, ap, arith}
use Rattle.std.proofs.lemmas.List.{drop_all}
use Rattle.design_model.specs.View.{process_view}
use Rattle.value_store.specs.Rooms.{processes_queued}
use Rattle.value_store.proofs.Counted.{ended}
use Rattle.value_store.proofs.room.queue_room.Goals as goal

pub returns : goal.returns
returns c =
    let l : length c.args.processes.now ≤ c.loop-process.process-index = omega arith in
    ended c.loop-process.count _ _ c.loop-process.invariant.sum (ap (λ ps. processes_queued (map process_view ps)) (drop_all c.loop-process.process-index c.args.processes.now l)) c.loop-process.invariant.small
