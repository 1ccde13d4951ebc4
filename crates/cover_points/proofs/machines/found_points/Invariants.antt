use Rattle.std.proofs.Common.{◌≡◌, ◌++◌, drop}
use Rattle.cover_points.specs.MachinePoints.{points_of_machine}
use Rattle.cover_points.specs.Texts.{each_from}
use Rattle.cover_points.proofs.machines.found_points.Given as goal

-- the points so far, with those of the rest, are those of all machines
abbrev pub invariant-loop-number : goal.invariant-loop-number
invariant-loop-number l = l.found.items ++ each_from points_of_machine l.number (drop l.number l.machines) ≡ each_from points_of_machine 0 l.machines
