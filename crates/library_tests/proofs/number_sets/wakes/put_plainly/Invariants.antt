use Rattle.std.proofs.Common.{◌≤◌, length}
use Rattle.library_tests.proofs.number_sets.wakes.put_plainly.Given as goal

-- the place is within the list
abbrev pub invariant-loop-index : goal.invariant-loop-index
invariant-loop-index l = l.place ≤ length l.waiting.items
