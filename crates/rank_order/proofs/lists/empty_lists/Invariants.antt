use Rattle.std.proofs.Common.{◌≡◌, [], replicate}
use Rattle.rank_order.specs.Order.{lists_of}
use Rattle.rank_order.proofs.lists.empty_lists.Given as goal

-- so many empty lists so far
abbrev pub invariant-loop-done : goal.invariant-loop-done
invariant-loop-done l = lists_of l.lists.items ≡ replicate l.done []
