use Rattle.process_order.specs.Parts.{IsLeft}
use Rattle.process_order.proofs.Picking.{IsOf}
use Rattle.process_order.proofs.parts.rest_of.Given as goal

-- the rest so far
abbrev pub invariant-loop-process : goal.invariant-loop-process
invariant-loop-process l = IsOf (IsLeft l.processes l.order.items) l.found.items l.process
