use Rattle.std.proofs.Common.{◌≡◌, ◌++◌, take}
use Rattle.cover_marks.specs.Owners.{node_owners}
use Rattle.cover_marks.proofs.owners.add_nodes.Given as goal

-- the owners of the points so far are added
abbrev pub invariant-loop-point : goal.invariant-loop-point
invariant-loop-point l = l.owners.items ≡ l.initial.owners.items ++ node_owners (take l.point-index l.points)
