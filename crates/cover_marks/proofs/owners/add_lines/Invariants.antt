use Rattle.std.proofs.Common.{◌≡◌, ◌++◌, take}
use Rattle.cover_marks.specs.Owners.{line_owners}
use Rattle.cover_marks.proofs.owners.add_lines.Given as goal

-- the owners of the points so far are added
abbrev pub invariant-loop-point : goal.invariant-loop-point
invariant-loop-point l = l.owners.items ≡ l.initial.owners.items ++ line_owners (take l.point-index l.points)
