use Rattle.wake_list.proofs.TournamentLemmas.{IsWritten}
use Rattle.wake_list.proofs.least_set.write_leaf.Given as goal

-- the nodes above the leaf are right below this one
abbrev pub invariant-loop-node : goal.invariant-loop-node
invariant-loop-node l = IsWritten l.fn.tree l.tree l.leaf l.held l.node

abbrev pub decreases-loop-node : goal.decreases-loop-node
decreases-loop-node l = l.node
