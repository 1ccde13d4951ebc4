use Rattle.worked_examples.proofs.Design.UnreadDoubt.{unknown_word_example}
use Rattle.worked_examples.proofs.designs.unknown_word.Goals as goal

pub returns : goal.returns
returns c = unknown_word_example
