use Rattle.worked_examples.proofs.Word.Compared.{change_example}
use Rattle.worked_examples.proofs.words.change_example.Goals as goal

pub returns : goal.returns
returns c = change_example
