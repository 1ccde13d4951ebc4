use Rattle.std.proofs.Common.{◌≡◌, ◌-◌, length}
use Rattle.test_ranking.specs.Candidate.{AreBounds}
use Rattle.test_ranking.specs.PointSet.{size}
use Rattle.test_ranking.proofs.Uses.{HasUsed}
use Rattle.test_ranking.proofs.rank_tables.rank.Given as goal

abbrev pub invariant-loop-next : goal.invariant-loop-next
invariant-loop-next l = record {
  uses : HasUsed l.points l.tables l.hit l.used;
  long : length l.hit ≡ l.points;
  total : l.total ≡ size l.hit;
  counts : length l.counts.items ≡ length l.tables;
  bounds : AreBounds l.tables l.hit l.counts.items;
}

abbrev pub decreases-loop-next : goal.decreases-loop-next
decreases-loop-next l = l.points - l.total
