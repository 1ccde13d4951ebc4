use Rattle.process_order.specs.Names.{lists_of}
use Rattle.process_order.specs.Needs.{is_bound}
use Rattle.process_order.proofs.Adding.{HaveGates}
use Rattle.process_order.proofs.needs.Links.all_needs.Given as goal

-- the needs of the processes, and of the gates so far
abbrev pub invariant-loop-thing : goal.invariant-loop-thing
invariant-loop-thing l = HaveGates l.self (is_bound l.bound) (lists_of l.watched) (lists_of l.needs.items) l.thing
