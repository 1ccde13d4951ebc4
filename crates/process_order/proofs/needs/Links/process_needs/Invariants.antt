use Rattle.process_order.specs.Names.{lists_of}
use Rattle.process_order.specs.Needs.{is_bound}
use Rattle.process_order.proofs.Adding.{HaveNeeds}
use Rattle.process_order.proofs.needs.Links.process_needs.Given as goal

-- the needs of the processes so far
abbrev pub invariant-loop-process : goal.invariant-loop-process
invariant-loop-process l = HaveNeeds l.self (is_bound l.bound) (lists_of l.watched) (lists_of l.needs.items) l.process
