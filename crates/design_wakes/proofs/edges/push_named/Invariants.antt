use Rattle.std.proofs.Common.{◌≡◌, ◌++◌, drop}
use Rattle.design_wakes.specs.Tables.{edges_named, machine_edge}
use Rattle.design_wakes.proofs.edges.push_named.Given as goal

-- the names so far, with those of the rest, are those of the list
abbrev pub invariant-loop-event : goal.invariant-loop-event
invariant-loop-event l = l.found.items ++ edges_named (machine_edge l.edge) (drop l.event-index l.events) ≡ l.fn.found.items ++ edges_named (machine_edge l.edge) l.fn.events
