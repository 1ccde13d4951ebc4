use Rattle.run_order.proofs.Choosing.{AreRanksSoFar}
use Rattle.run_order.proofs.order.RunOrder.new.Given as goal

-- the processes so far have their places
abbrev pub invariant-loop-place : goal.invariant-loop-place
invariant-loop-place l = AreRanksSoFar l.order l.count l.place l.ranks.items
