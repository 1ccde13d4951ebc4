use Rattle.std.proofs.Common.{arith}
use Rattle.std.proofs.lemmas.List.Sorted.{length_permutation}
use Rattle.point_table.proofs.rows.path_order.Goals as goal

pub returns-clause-count : goal.returns-clause-count
returns-clause-count c =
    omega (arith, length_permutation c.in_ok-order.order.items c.sort_by_path.new.order.items c.in_ok-sort_by_path.ensures.permutation, c.in_ok-order.ensures.count)
