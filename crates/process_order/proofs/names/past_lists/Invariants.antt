use Rattle.process_order.specs.Names.{lists_of}
use Rattle.process_order.proofs.Past.{IsPastLists}
use Rattle.process_order.proofs.names.past_lists.Given as goal

-- past the numbers of the lists so far
abbrev pub invariant-loop-list : goal.invariant-loop-list
invariant-loop-list l = IsPastLists (lists_of l.lists) l.least l.list-index l.past
