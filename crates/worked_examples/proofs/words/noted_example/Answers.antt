use Rattle.worked_examples.proofs.Word.Noted.{noted_example}
use Rattle.worked_examples.proofs.words.noted_example.Goals as goal

pub returns : goal.returns
returns c = noted_example
