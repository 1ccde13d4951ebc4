use Rattle.std.proofs.Common.{◌∷◌, codes, length}
use Rattle.command_line.specs.WordsLeft.{left_words}
use Rattle.command_line.proofs.ScoreReading.{HasRead}
use Rattle.command_line.proofs.command.read_score.Given as goal

-- what is not left was read
abbrev pub invariant-loop-word : goal.invariant-loop-word
invariant-loop-word l = HasRead (codes "score" ∷ left_words l.fn.left) (left_words l.left) l.values

abbrev pub decreases-loop-word : goal.decreases-loop-word
decreases-loop-word l = length (left_words l.left)
