use Rattle.std.proofs.Common.{◌≡◌, None, replicate}
use Rattle.wake_list.proofs.wake_list.no_ranks.Given as goal

-- none so far
abbrev pub invariant-loop-done : goal.invariant-loop-done
invariant-loop-done l = l.ranks.items ≡ replicate l.done None
