use Rattle.std.proofs.Common.{◌≡◌, ◌-◌, ◌*◌, ◌≤◌, ◌++◌, length}
use Rattle.test_ranking.specs.Hits.{hits_among}
use Rattle.test_ranking.specs.Words.{words_of}
use Rattle.test_ranking.proofs.words.words_of.Given as goal

-- the words so far, and those of the points that are left
abbrev pub invariant-loop-place : goal.invariant-loop-place
invariant-loop-place l = record {
  words : l.words.items ++ words_of (l.count - l._place) (hits_among l.left) ≡ words_of l.count (hits_among l.fn.points);
  room : length l.left ≤ 64 * (l.count - l._place);
}
