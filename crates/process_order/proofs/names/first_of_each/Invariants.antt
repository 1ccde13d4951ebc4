use Rattle.std.proofs.Common.{◌≡◌, take}
use Rattle.process_order.proofs.Past.{HasSame}
use Rattle.process_order.proofs.names.first_of_each.Given as goal

-- the numbers so far
abbrev pub invariant-loop-number : goal.invariant-loop-number
invariant-loop-number l = (l.seen.size ≡ l.fn.seen.size) × (l.kept.items ≡ l.seen.items) × HasSame l.seen.items (take l.number-index l.list)
