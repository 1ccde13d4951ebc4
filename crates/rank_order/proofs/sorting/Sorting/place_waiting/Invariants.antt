use Rattle.std.proofs.Common.{◌-◌, length}
use Rattle.rank_order.specs.Order.{lists_of}
use Rattle.rank_order.proofs.Progress.{IsUpTo}
use Rattle.rank_order.proofs.sorting.Sorting.place_waiting.Given as goal

-- all nodes that wait for one of the order so far are taken up
abbrev pub invariant-loop-done : goal.invariant-loop-done
invariant-loop-done l = IsUpTo (lists_of l.needs) l.self l.done

abbrev pub decreases-loop-done : goal.decreases-loop-done
decreases-loop-done l = length l.needs - l.done
