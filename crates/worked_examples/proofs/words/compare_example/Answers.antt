use Rattle.worked_examples.proofs.Word.Compared.{compare_example}
use Rattle.worked_examples.proofs.words.compare_example.Goals as goal

pub returns : goal.returns
returns c = compare_example
