use Rattle.std.proofs.Common.{◌≡◌, length}
use Rattle.command_line.specs.OptionValues.{values_left}
use Rattle.command_line.specs.WordsLeft.{left_words}
use Rattle.command_line.proofs.option_values.OptionValues.next_value.Given as goal

-- no value was passed over
abbrev pub invariant-loop-word : goal.invariant-loop-word
invariant-loop-word l = (values_left l.self ≡ values_left l.fn.self) × (l.self.option ≡ l.fn.self.option)

abbrev pub decreases-loop-word : goal.decreases-loop-word
decreases-loop-word l = length (left_words l.self.words)
