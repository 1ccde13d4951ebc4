use Rattle.std.proofs.Common.{◌≡◌}
use Rattle.process_order.specs.Names.{lists_of}
use Rattle.process_order.proofs.Past.{AreShared}
use Rattle.process_order.proofs.owners.shared_lists.Given as goal

-- the lists so far
abbrev pub invariant-loop-process : goal.invariant-loop-process
invariant-loop-process l = (l.marks.size ≡ l.count) × AreShared (lists_of l.shared.items) (lists_of l.watched) (lists_of l.driven) l.process
