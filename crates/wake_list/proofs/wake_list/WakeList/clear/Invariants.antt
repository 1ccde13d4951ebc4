use Rattle.std.proofs.Common.{◌≡◌, length}
use Rattle.wake_list.proofs.wake_list.WakeList.clear.Given as goal

-- the count stays
abbrev pub invariant-loop : goal.invariant-loop
invariant-loop l = l.self.count ≡ l.fn.self.count

abbrev pub decreases-loop : goal.decreases-loop
decreases-loop l = length l.self.pairs
