use Rattle.worked_examples.proofs.Design.UnreadDoubt.{other_word_example}
use Rattle.worked_examples.proofs.designs.other_word.Goals as goal

pub returns : goal.returns
returns c = other_word_example
