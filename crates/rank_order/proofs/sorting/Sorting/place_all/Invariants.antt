use Rattle.std.proofs.Common.{take}
use Rattle.rank_order.specs.Order.{lists_of}
use Rattle.rank_order.specs.Sorting.{IsSorting, Places}
use Rattle.rank_order.proofs.sorting.Sorting.place_all.Given as goal

-- the nodes so far are placed
abbrev pub invariant-loop-node : goal.invariant-loop-node
invariant-loop-node l = IsSorting (lists_of l.needs) l.self × Places (lists_of l.needs) (take l.node-index l.nodes) l.fn.self l.self
