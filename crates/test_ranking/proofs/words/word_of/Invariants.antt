use Rattle.std.proofs.Common.{◌≡◌, ◌≤◌, drop, length}
use Rattle.test_ranking.specs.Hits.{hits_among}
use Rattle.test_ranking.specs.Words.{word_of}
use Rattle.test_ranking.proofs.words.word_of.Given as goal

-- the word of the points from the place on
abbrev pub invariant-loop-place : goal.invariant-loop-place
invariant-loop-place l = record {
  word : l.word ≡ word_of (drop l.place (hits_among l.points));
  inside : l.place ≤ length l.points;
}

abbrev pub decreases-loop-place : goal.decreases-loop-place
decreases-loop-place l = l.place
