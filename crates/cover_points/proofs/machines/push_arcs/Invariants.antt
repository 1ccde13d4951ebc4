use Rattle.std.proofs.Common.{◌≡◌, ◌++◌}
use Rattle.std.specs.List.{flat_map, range_with_len}
use Rattle.cover_points.specs.MachinePoints.{arcs_from}
use Rattle.cover_points.proofs.machines.push_arcs.Given as goal

abbrev pub invariant-loop-from : goal.invariant-loop-from
invariant-loop-from l = l.found.items ≡ l.initial.found.items ++ flat_map (arcs_from l.machine l.count) (range_with_len 0 l.from)
