use Rattle.std.proofs.Common.{take}
use Rattle.process_order.proofs.Past.{IsPast}
use Rattle.process_order.proofs.names.past_list.Given as goal

-- past the numbers so far
abbrev pub invariant-loop-number : goal.invariant-loop-number
invariant-loop-number l = IsPast (take l.number-index l.list) l.least l.past
