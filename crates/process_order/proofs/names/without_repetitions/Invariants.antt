use Rattle.std.proofs.Common.{◌≡◌}
use Rattle.process_order.specs.Names.{lists_of}
use Rattle.process_order.proofs.Past.{AreSame}
use Rattle.process_order.proofs.names.without_repetitions.Given as goal

-- the lists so far
abbrev pub invariant-loop-list : goal.invariant-loop-list
invariant-loop-list l = (l.seen.size ≡ l.count) × AreSame (lists_of l.once.items) (lists_of l.lists) l.list-index
