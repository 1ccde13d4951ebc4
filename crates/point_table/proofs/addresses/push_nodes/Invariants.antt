use Rattle.std.proofs.Common.{◌≡◌, ◌++◌, map, take}
use Rattle.point_table.specs.Addresses.{node_address, missed}
use Rattle.point_table.proofs.addresses.push_nodes.Given as goal

abbrev pub invariant-loop-point : goal.invariant-loop-point
invariant-loop-point l = l.rows.items ≡ l.initial.rows.items ++ map (λ x. missed (node_address l.places x)) (take l.point-index l.points)
