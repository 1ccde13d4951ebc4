use Rattle.std.proofs.Common.{◌≡◌, ◌<◌, ◌^◌, max, drop, map}
use Rattle.design_model.specs.View.{design_view, process_view}
use Rattle.value_store.specs.Rooms.{as_usize, log_takes, most_logged}
use Rattle.value_store.proofs.logged.log_room.Given as goal

-- the most so far, with that of the rest, is that of all processes
abbrev pub invariant-loop-process : goal.invariant-loop-process
invariant-loop-process l =
    record { most : as_usize (max l.most (most_logged (log_takes (design_view l.design)) (map process_view (drop l.process-index l.design.processes)))) ≡ as_usize (most_logged (log_takes (design_view l.design)) (map process_view l.design.processes)); small : l.most < 2 ^ 64 }
