use Rattle.std.proofs.Common.{◌<◌, ◌≤◌}
use Rattle.test_ranking.proofs.next.greatest.Given as goal

abbrev pub invariant-loop-place : goal.invariant-loop-place
invariant-loop-place l = record {
  upto : l.best ≤ l.place;
  below : 0 < l.place → l.best < l.place;
}
