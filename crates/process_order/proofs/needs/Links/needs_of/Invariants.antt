use Rattle.std.proofs.Common.{take}
use Rattle.process_order.specs.Needs.{HasNeeds, is_bound}
use Rattle.process_order.proofs.needs.Links.needs_of.Given as goal

-- the needs for what it watches so far
abbrev pub invariant-loop-thing : goal.invariant-loop-thing
invariant-loop-thing l = HasNeeds l.self (is_bound l.bound) l.gates l.process (take l.thing-index l.watched) l.needs.items
