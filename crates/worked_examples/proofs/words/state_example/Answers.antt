use Rattle.worked_examples.proofs.Word.Compared.{state_example}
use Rattle.worked_examples.proofs.words.state_example.Goals as goal

pub returns : goal.returns
returns c = state_example
