use Rattle.std.proofs.Common.{◌≡◌, take}
use Rattle.process_order.proofs.Past.{HasSame}
use Rattle.process_order.proofs.owners.mark.Given as goal

-- the numbers so far
abbrev pub invariant-loop-number : goal.invariant-loop-number
invariant-loop-number l = (l.marks.size ≡ l.fn.marks.size) × HasSame l.marks.items (take l.number-index l.list)
