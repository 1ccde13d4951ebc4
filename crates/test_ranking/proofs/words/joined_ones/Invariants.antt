use Rattle.std.proofs.Common.{◌≡◌, ◌+◌, ◌*◌, ◌≤◌, drop}
use Rattle.test_ranking.specs.Words.{joined_ones}
use Rattle.test_ranking.proofs.words.joined_ones.Given as goal

-- the bits so far, and those of the words that are left
abbrev pub invariant-loop-place : goal.invariant-loop-place
invariant-loop-place l = record {
  ones : l.count + joined_ones (drop l.place l.left) (drop l.place l.right) ≡ joined_ones l.left l.right;
  few : l.count ≤ 64 * l.place;
}
