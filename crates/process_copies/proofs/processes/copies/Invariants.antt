use Rattle.std.proofs.Common.{◌≡◌, map, take}
use Rattle.design_model.specs.View.{process_view}
use Rattle.process_copies.proofs.processes.copies.Given as goal

-- the copies so far are those of the front
abbrev pub invariant-loop-process : goal.invariant-loop-process
invariant-loop-process l = map process_view l.copies.items ≡ map process_view (take l.process-index l.processes)
