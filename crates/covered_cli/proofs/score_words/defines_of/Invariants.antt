use Rattle.std.proofs.Common.{◌≡◌, ◌++◌, length, map}
use Rattle.command_line.specs.OptionValues.{defines_of}
use Rattle.covered_cli.specs.ScoreSources.{define_text}
use Rattle.covered_cli.proofs.score_words.defines_of.Given as goal

-- the macros so far, and those that are left
abbrev pub invariant-defines : goal.invariant-defines
invariant-defines l = l.defines ++ map define_text (defines_of l.left) ≡ map define_text (defines_of l.fn.given)

abbrev pub decreases-defines : goal.decreases-defines
decreases-defines l = length (defines_of l.left)
