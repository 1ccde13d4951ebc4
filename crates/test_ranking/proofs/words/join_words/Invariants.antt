use Rattle.std.proofs.Common.{◌≡◌, ◌++◌, drop, take}
use Rattle.test_ranking.specs.Words.{joined_words}
use Rattle.test_ranking.proofs.words.join_words.Given as goal

-- the words that are joined, and the join of the others
abbrev pub invariant-loop-place : goal.invariant-loop-place
invariant-loop-place l = take l.place l.words ++ joined_words (drop l.place l.words) (drop l.place l.others) ≡ joined_words l.fn.words l.others
