use Rattle.test_ranking.specs.Candidate.{AreBounds, IsBest}
use Rattle.test_ranking.proofs.next.best_table.Given as goal

-- the best so far, and counts that are bounds
abbrev pub invariant-loop-place : goal.invariant-loop-place
invariant-loop-place l = record {
  best : IsBest l.tables l.hit l.place l.best;
  bounds : AreBounds l.tables l.hit l.counts;
}
