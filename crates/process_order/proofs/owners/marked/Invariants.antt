use Rattle.std.proofs.Common.{take}
use Rattle.process_order.proofs.Past.{HasBoth}
use Rattle.process_order.proofs.owners.marked.Given as goal

-- those of the numbers so far
abbrev pub invariant-loop-number : goal.invariant-loop-number
invariant-loop-number l = HasBoth l.found.items (take l.number-index l.list) l.marks.items
