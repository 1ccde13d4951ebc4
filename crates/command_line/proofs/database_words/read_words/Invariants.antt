use Rattle.std.proofs.Common.{◌∷◌, length}
use Rattle.command_line.specs.DatabaseWords.{command_text}
use Rattle.command_line.specs.GivenWords.{HasRead}
use Rattle.command_line.specs.WordsLeft.{left_words}
use Rattle.command_line.proofs.database_words.read_words.Given as goal

-- what is not left was read
abbrev pub invariant-loop-word : goal.invariant-loop-word
invariant-loop-word l = HasRead l.command (command_text l.command ∷ left_words l.fn.left) (left_words l.left) l.given

abbrev pub decreases-loop-word : goal.decreases-loop-word
decreases-loop-word l = length (left_words l.left)
