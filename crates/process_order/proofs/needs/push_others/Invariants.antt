use Rattle.std.proofs.Common.{take}
use Rattle.process_order.specs.Needs.{AddsOthers}
use Rattle.process_order.proofs.needs.push_others.Given as goal

-- the drivers so far
abbrev pub invariant-loop-driver : goal.invariant-loop-driver
invariant-loop-driver l = AddsOthers l.process (take l.driver-index l.drivers) l.fn.needs.items l.needs.items
