use Rattle.std.proofs.Common.{◌≡◌, ◌<◌, ◌^◌, ◌+◌, drop, map}
use Rattle.design_model.specs.View.{process_view}
use Rattle.value_store.specs.Rooms.{as_usize, processes_queued}
use Rattle.value_store.proofs.room.queue_room.Given as goal

-- the number so far, with those of the rest, is that of all processes
abbrev pub invariant-loop-process : goal.invariant-loop-process
invariant-loop-process l =
    record { sum : as_usize (l.count + processes_queued (map process_view (drop l.process-index l.processes))) ≡ as_usize (processes_queued (map process_view l.processes)); small : l.count < 2 ^ 64 }
