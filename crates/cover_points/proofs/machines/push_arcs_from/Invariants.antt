use Rattle.std.proofs.Common.{◌≡◌, ◌++◌}
use Rattle.std.specs.List.{flat_map, range_with_len}
use Rattle.cover_points.specs.MachinePoints.{arc_to}
use Rattle.cover_points.proofs.machines.push_arcs_from.Given as goal

abbrev pub invariant-loop-to : goal.invariant-loop-to
invariant-loop-to l = l.found.items ≡ l.initial.found.items ++ flat_map (arc_to l.machine l.from) (range_with_len 0 l.to)
