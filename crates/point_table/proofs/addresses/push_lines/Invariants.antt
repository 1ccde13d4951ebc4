use Rattle.std.proofs.Common.{◌≡◌, ◌++◌, map, take}
use Rattle.point_table.specs.Addresses.{line_address, missed}
use Rattle.point_table.proofs.addresses.push_lines.Given as goal

abbrev pub invariant-loop-point : goal.invariant-loop-point
invariant-loop-point l = l.rows.items ≡ l.initial.rows.items ++ map (λ x. missed (line_address l.places x)) (take l.point-index l.points)
