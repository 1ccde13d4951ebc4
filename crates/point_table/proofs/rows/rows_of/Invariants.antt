use Rattle.std.proofs.Common.{◌≡◌, map, take}
use Rattle.point_table.specs.Rows.{row_at}
use Rattle.point_table.proofs.rows.rows_of.Given as goal

abbrev pub invariant-loop-number : goal.invariant-loop-number
invariant-loop-number l = l.rows ≡ map (row_at l.instances) (take l.number-index l.order)
