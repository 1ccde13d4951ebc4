use Rattle.std.proofs.Common.{◌≡◌, take}
use Rattle.std.specs.Prelude.{filter}
use Rattle.process_order.specs.Parts.{is_run}
use Rattle.process_order.proofs.parts.ordered_of.Given as goal

-- those of the order so far
abbrev pub invariant-loop-node : goal.invariant-loop-node
invariant-loop-node l = l.found.items ≡ filter (is_run l.processes) (take l.node-index l.order)
