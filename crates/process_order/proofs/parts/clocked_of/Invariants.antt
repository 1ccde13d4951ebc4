use Rattle.process_order.specs.Parts.{waits_at}
use Rattle.process_order.proofs.Picking.{IsPicked}
use Rattle.process_order.proofs.parts.clocked_of.Given as goal

-- the Clocked processes so far
abbrev pub invariant-loop-process : goal.invariant-loop-process
invariant-loop-process l = IsPicked (waits_at l.processes) l.found.items l.process
